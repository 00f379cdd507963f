-- A small sweep and its merge book, computed: the file of crates/book. Three merges, one by 0, one whose second end is the base, one along an edge that took up
-- another. Assumes nothing.
use Rattle.std.specs.Prelude.{ℕ, ◌≡◌, refl, List, [], ◌∷◌, map, pos, negsuc, replicate}
use Rattle.std.specs.Float.{nan, binary32}
use Rattle.std.specs.Float.Ieee.{of_int}
use Rattle.lists.specs.Seq.{each}
use Rattle.network.specs.Book.{Entry, numbers, replayed}
use Rattle.sweep.specs.Sweep.{Sweep, regions_of}
use Rattle.sweep.specs.Questions.{own_limits}
use Rattle.sweep_book.specs.Evaluating.{evaluating}
use Rattle.sweep_book.specs.Book.{BookAnswer, book_of, call_book}

-- two rays of four gates at Nyquist 10, splits 3 and skips 100: 5, 8, 8, 3 and 9, 0, masked, -9; their labels are 4, 4, 4, 2 and 4, 3, 0, 1
abbrev four_regions : Sweep
four_regions = record {
  shape = record { rays = 2; gates = 4; skip_between_rays = 100; skip_along_ray = 100; wrap = 0 };
  splits = 3;
  centred = 0;
  nyquist = of_int binary32 (pos 10);
  vel = map (of_int binary32) (pos 5 ∷ pos 8 ∷ pos 8 ∷ pos 3 ∷ pos 9 ∷ pos 0 ∷ pos 0 ∷ negsuc 8 ∷ []);
  mask = 1 ∷ 1 ∷ 1 ∷ 1 ∷ 1 ∷ 1 ∷ 0 ∷ 1 ∷ [];
}

abbrev entries : List Entry
entries = book_of four_regions (regions_of four_regions (own_limits four_regions))

pub entries_hold : each numbers entries
    ≡ pos 4 ∷ pos 3 ∷ pos 2 ∷ pos 0 ∷ pos 0 ∷ pos 1
    ∷ pos 1 ∷ pos 2 ∷ pos 1 ∷ pos 0 ∷ negsuc 0 ∷ pos 1
    ∷ pos 4 ∷ pos 1 ∷ pos 2 ∷ pos 1 ∷ pos 1 ∷ pos 2
    ∷ []
unfolding evaluating
entries_hold = refl

-- replayed over labels 0 to 4, they give the counts before centring
pub replay_holds : map (λ l. (replayed entries l).count) (0 ∷ 1 ∷ 2 ∷ 3 ∷ 4 ∷ []) ≡ pos 0 ∷ pos 1 ∷ pos 0 ∷ pos 0 ∷ pos 0 ∷ []
unfolding evaluating
replay_holds = refl

-- the call with a book of so many numbers, each 7 before
abbrev called : ℕ → BookAnswer
called k = call_book four_regions (record {
  counts = replicate 8 (pos 7);
  doubtful = replicate 8 7;
  pair = 7 ∷ 7 ∷ [];
  words = replicate 832 7;
  floats = replicate 144 nan;
}) (replicate k (pos 7))

-- four regions ask for three entries; what is left of the book stays
pub asked_holds : map (λ k. (called k).answer.number) (0 ∷ 17 ∷ 18 ∷ 20 ∷ []) ≡ 13 ∷ 13 ∷ 0 ∷ 0 ∷ []
unfolding evaluating
asked_holds = refl

pub short_holds : (called 8).book ≡ replicate 8 (pos 7)
unfolding evaluating
short_holds = refl

pub longer_holds : (called 20).book
    ≡ pos 4 ∷ pos 3 ∷ pos 2 ∷ pos 0 ∷ pos 0 ∷ pos 1
    ∷ pos 1 ∷ pos 2 ∷ pos 1 ∷ pos 0 ∷ negsuc 0 ∷ pos 1
    ∷ pos 4 ∷ pos 1 ∷ pos 2 ∷ pos 1 ∷ pos 1 ∷ pos 2
    ∷ pos 7 ∷ pos 7 ∷ []
unfolding evaluating
longer_holds = refl
