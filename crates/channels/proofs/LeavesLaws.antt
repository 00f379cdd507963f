-- Both channels in one work memory: what finding each asks, and that what horizontal left stays while vertical works behind it. Assumes nothing.
use Prim.Native.Nat.{ℕ, zero, suc, ◌+◌, ◌-◌, ◌*◌, ◌≤◌, ◌<◌}
use native.Mathlib.Omega.{arith}
use mathlib.Core.Path.{◌≡◌, refl, sym, ap, ◌∙◌, subst}
use mathlib.Core.List.{List, [], ◌∷◌}
use lib.ListN.{length, get_or, take, drop, length-drop}
use lib.Seq.{take_all, length-take-le}
use lib.Ieee.{Float}
use borrow.Rule.Slice.PartMut.{put_mid}
use Rattle.lists.specs.Inside.Seg.{seg, put}
use Rattle.lists.proofs.SegLaws.{get_or-put_below, seg-put_below, put_mid_lem, lent_seg, length-put}
use Rattle.arithmetic.specs.Intervals.{two_nyquist}
use Rattle.arithmetic.specs.declared.intervals.Plan.{Plan}
use Rattle.labels.specs.Label.{Found}
use Rattle.labels.proofs.RegionLaws.{number_at_most}
use Rattle.memory.specs.Inside.Layout.{sizes_at, counts_at, marks_at, book_at}
use Rattle.merge.specs.Inside.Steps.{unbias}
use Rattle.network.specs.Network.{State, merges}
use Rattle.network.specs.Inside.Find.{Finding, shape_of, limits_by, regions_by, network_for, Finds, Leaves}
use Rattle.network.specs.declared.options.Options.{Options}
use Rattle.network.proofs.LogIs.{entries_same}
use Rattle.network.proofs.BookLaws.{merges_less}
use Rattle.network.specs.declared.input.Sweep.{Sweep as Lent}
use Rattle.channels.specs.Inside.Both.{behind, FindsBoth, LeavesOf, LeavesBoth}

-- what finding asks of a sweep it asks with any words and floats that are enough
pub finds_in : (o : Options) (p : Plan) (vel : List Float) (mask w u : List ℕ) (d e : List Float) → Finds o p vel mask w d → 77 * length vel + 64 ≤ length u → 16 * length vel + 16 ≤ length e → Finds o p vel mask u e
finds_in o p vel mask w u d e q a b = record {
  limited = record {
    planned = q.limited.planned;
    rising = q.limited.rising;
    masks = q.limited.masks;
    small = q.limited.small;
    some_gates = q.limited.some_gates;
    room = omega (arith, a);
  };
  whole = q.whole;
  words = a;
  floats = b;
}

-- vertical's part of the words
pub behind_long : (n : ℕ) (w : List ℕ) → length (behind n w) ≡ length w - 13 * n
behind_long n w = length-take-le (length w - 13 * n) (drop (13 * n) w) (omega (arith, length-drop (13 * n) w))

-- ---- what was left before the place 13n stays when something else is put there
module _ (f : Found) (t : State) (n : ℕ) (w ys : List ℕ) (x : Finding) (some : 1 ≤ n) (few : f.number ≤ n) (less : length (merges t) ≤ f.number - 1) where
  abbrev k : ℕ
  k = f.number

  same : (j : ℕ) → j < 13 * n → get_or (put w (13 * n) ys) j 0 ≡ get_or w j 0
  same j = get_or-put_below w (13 * n) ys j 0

  leaves_stay : Leaves f t n w x → Leaves f t n (put w (13 * n) ys) x
  unfolding sizes_at counts_at marks_at book_at
  leaves_stay R = record {
    answer = R.answer;
    tables = record {
      counts = λ g l h. ap unbias (same (n + (k + 1) + l) (omega (arith, few, some, h))) ∙ R.tables.counts g l h;
      most = λ g l h. omega (arith, same (n + (k + 1) + l) (omega (arith, few, some, h)), R.tables.most g l h);
      marks = λ g l h. same (n + (k + 1) + (k + 1) + l) (omega (arith, few, some, h)) ∙ R.tables.marks g l h;
      entries = λ g.
          entries_same (λ j. get_or w (n + (k + 1) + (k + 1) + (k + 1) + j) 0) (λ j. get_or (put w (13 * n) ys) (n + (k + 1) + (k + 1) + (k + 1) + j) 0) (length (merges t)) _
          (λ j h. same (n + (k + 1) + (k + 1) + (k + 1) + j) (omega (arith, few, some, less, h))) (R.tables.entries g);
      sizes = seg-put_below w (13 * n) ys n (k + 1) (omega (arith, few, some)) ∙ R.tables.sizes;
      labels = seg-put_below w (13 * n) ys 0 n (omega (arith, some)) ∙ R.tables.labels;
    };
  }

-- where there are no gates, both channels leave the same
leaves_none : (o : Options) (p : Plan) (hVel : List Float) (hMask : List ℕ) (vVel : List Float) (vMask w u : List ℕ) (x y : Finding)
    → length hVel ≡ 0 → length hMask ≡ 0 → length vVel ≡ 0 → length vMask ≡ 0 → LeavesOf o p hVel hMask w x → LeavesOf o p vVel vMask u y → LeavesOf o p hVel hMask u x
leaves_none o p [] [] [] [] w u x y a b c e R S = record { answer = R.answer; tables = S.tables }
leaves_none o p (v ∷ vs) hMask vVel vMask w u x y a b c e R S = absurd (omega (arith, a))
leaves_none o p [] (m ∷ ms) vVel vMask w u x y a b c e R S = absurd (omega (arith, b))
leaves_none o p [] [] (v ∷ vs) vMask w u x y a b c e R S = absurd (omega (arith, c))
leaves_none o p [] [] [] (m ∷ ms) w u x y a b c e R S = absurd (omega (arith, e))

-- ---- w being the words that horizontal left, and ys what vertical left in its part
module _ (h v : Lent) (p : Plan) (w0 w ys : List ℕ) (d : List Float) (q : FindsBoth h v p w0 d) (x y : Finding) (long : length w ≡ length w0) (part : length ys ≡ length (behind (length h.velocity.now) w))
    (R : LeavesOf h.options p h.velocity.now h.valid.now w x) (S : LeavesOf v.options p v.velocity.now v.valid.now ys y) where
  abbrev n : ℕ
  n = length h.velocity.now

  -- all words afterwards
  abbrev u : List ℕ
  u = put_mid (13 * n) (length w - 13 * n) w ys

  room : 13 * n ≤ length w
  room = omega (arith, long, q.horizontal.words)

  rest : length ys ≡ length w - 13 * n
  rest = part ∙ behind_long n w

  put_is : u ≡ put w (13 * n) ys
  put_is = put_mid_lem w (13 * n) (length w - 13 * n) ys rest (omega (arith, room))

  behind_is : behind n u ≡ ys
  behind_is =
      ap (λ (k : ℕ). take (k - 13 * n) (drop (13 * n) u)) (ap length put_is ∙ length-put w (13 * n) ys)
      ∙ (unfold seg in lent_seg w (13 * n) (length w - 13 * n) ys rest (omega (arith, room)))

  few : (regions_by h.options p h.velocity.now h.valid.now).number ≤ n
  few = omega (arith, number_at_most h.options.gates h.velocity.now h.valid.now (limits_by h.options p) q.horizontal.limited.rising, q.horizontal.limited.masks)

  horizontal_stays : LeavesOf h.options p h.velocity.now h.valid.now u x
  horizontal_stays = go n refl
    where
      go : (k : ℕ) → n ≡ k → LeavesOf h.options p h.velocity.now h.valid.now u x
      go zero e =
          let all : ys ≡ u = sym behind_is ∙ ap (λ (k : ℕ). behind k u) e ∙ take_all (length u - 13 * 0) u (omega arith) in
          leaves_none h.options p h.velocity.now h.valid.now v.velocity.now v.valid.now w u x y e (omega (arith, q.horizontal.limited.masks, e)) (omega (arith, q.same, e)) (omega (arith, q.vertical.limited.masks, q.same, e))
          R (subst (λ (l : List ℕ). LeavesOf h.options p v.velocity.now v.valid.now l y) all (subst (λ (o : Options). LeavesOf o p v.velocity.now v.valid.now ys y) q.options S))
      go (suc k) e =
          subst (λ (l : List ℕ). LeavesOf h.options p h.velocity.now h.valid.now l x) (sym put_is)
          (leaves_stay (regions_by h.options p h.velocity.now h.valid.now) (network_for h.options (regions_by h.options p h.velocity.now h.valid.now) h.velocity.now) n w ys x (omega (arith, e)) few
          (merges_less (two_nyquist h.options.nyquist) (shape_of h.options) (regions_by h.options p h.velocity.now h.valid.now).number (regions_by h.options p h.velocity.now h.valid.now).labels h.velocity.now) R)

  pub leaves_both : LeavesBoth h v p u (record { horizontal = x; vertical = y })
  leaves_both = record { horizontal = horizontal_stays; vertical = subst (λ (l : List ℕ). LeavesOf v.options p v.velocity.now v.valid.now l y) (sym behind_is) S }
