-- The elements of a list that pass a test, and facts of each element. Assumes nothing.
use Prim.Native.Nat.{ℕ}
use mathlib.Core.Path.{◌≡◌, refl, sym, ap, ◌∙◌}
use mathlib.Core.Bool.{Bool, true, false, not, ◌&&◌, cond, true≢false}
use mathlib.Core.Option.{some, none-ne-some, some-injective}
use mathlib.Core.List.{List, [], ◌∷◌, map, head-eq_of_cons-eq, tail-eq_of_cons-eq, nil≢cons, cons≢nil}
use lib.Dec.{eqb}
use borrow.Author.Tests.{eqb-true, ne_eqb}
use Rattle.lists.specs.Seq.{keep, All}
use Rattle.lists.proofs.SeqLaws.{keep_of_map, keep_same}
use Rattle.lists.proofs.AllLaws.{and_right}
use Rattle.network.specs.Network.{Edge, at}

module _ {A : Type 0} where
  -- A map that keeps what the test says
  pub keep_map : (f : A → Bool) (g : A → A) → ((a : A) → f (g a) ≡ f a) → (l : List A) → keep f (map g l) ≡ map g (keep f l)
  keep_map f g h l = keep_of_map g f l ∙ ap (map g) (keep_same (λ x. f (g x)) f l h)

  -- A map that fixes the kept elements
  pub keep_fixed : {P : A → Type 0} (f : A → Bool) (g : A → A) → ((a : A) → P a → f a ≡ true → g a ≡ a) → (l : List A) → All P l → map g (keep f l) ≡ keep f l
  unfolding keep
  keep_fixed f g h [] t = refl
  keep_fixed f g h (x ∷ xs) t = go (f x) (h x t.0) (keep_fixed f g h xs t.1)
    where
      go : (b : Bool) → (b ≡ true → g x ≡ x) → map g (keep f xs) ≡ keep f xs → map g (cond b (x ∷ keep f xs) (keep f xs)) ≡ cond b (x ∷ keep f xs) (keep f xs)
      go true e ih = rw (e refl, ih) refl
      go false e ih = ih

  -- A list is determined by its keys and by the elements whose key passes a test and those whose key doesn't.
  pub keep_both : (k : A → ℕ) (q : ℕ → Bool) (l m : List A) → map k l ≡ map k m
      → keep (λ x. q (k x)) l ≡ keep (λ x. q (k x)) m → keep (λ x. not (q (k x))) l ≡ keep (λ x. not (q (k x))) m → l ≡ m
  unfolding keep
  keep_both k q [] [] e t f = refl
  keep_both k q [] (y ∷ m) e t f = absurd (nil≢cons e)
  keep_both k q (x ∷ l) [] e t f = absurd (cons≢nil e)
  keep_both k q (x ∷ l) (y ∷ m) e t f = go (q (k x)) (q (k y)) (ap q (head-eq_of_cons-eq e)) t f (keep_both k q l m (tail-eq_of_cons-eq e))
    where
      go : (b c : Bool) → b ≡ c
          → cond b (x ∷ keep (λ x. q (k x)) l) (keep (λ x. q (k x)) l) ≡ cond c (y ∷ keep (λ x. q (k x)) m) (keep (λ x. q (k x)) m)
          → cond (not b) (x ∷ keep (λ x. not (q (k x))) l) (keep (λ x. not (q (k x))) l) ≡ cond (not c) (y ∷ keep (λ x. not (q (k x))) m) (keep (λ x. not (q (k x))) m)
          → (keep (λ x. q (k x)) l ≡ keep (λ x. q (k x)) m → keep (λ x. not (q (k x))) l ≡ keep (λ x. not (q (k x))) m → l ≡ m) → x ∷ l ≡ y ∷ m
      go true true e t f r = let s : l ≡ m = r (tail-eq_of_cons-eq t) f in let h : x ≡ y = head-eq_of_cons-eq t in cc
      go false false e t f r = let s : l ≡ m = r t (tail-eq_of_cons-eq f) in let h : x ≡ y = head-eq_of_cons-eq f in cc
      go true false e t f r = absurd (true≢false e)
      go false true e t f r = absurd (true≢false (sym e))

module _ (p : ℕ → Bool) where
  -- numbers of which one passes a test and one doesn't are apart
  pub apart : (a b : ℕ) → p a ≡ true → p b ≡ false → eqb a b ≡ false
  apart a b s t = ne_eqb a b (λ e. true≢false (sym s ∙ ap p e ∙ t))

  pub apart' : (a b : ℕ) → p a ≡ false → p b ≡ true → eqb a b ≡ false
  apart' a b s t = ne_eqb a b (λ e. true≢false (sym t ∙ sym (ap p e) ∙ s))

-- What holds of each edge holds of the one found, and that has the number looked for.
pub at_all : (P : Edge → Type 0) (i : ℕ) (es : List Edge) → All P es → (e : Edge) → at es i ≡ some e → (e.num ≡ i) × P e
unfolding at
at_all P i [] t e h = absurd (none-ne-some e h)
at_all P i (f ∷ es) t e h = go (f.live && eqb i f.num) refl h (at_all P i es t.1 e)
  where
    go : (b : Bool) → (f.live && eqb i f.num) ≡ b → cond b (some f) (at es i) ≡ some e → (at es i ≡ some e → (e.num ≡ i) × P e) → (e.num ≡ i) × P e
    go true r h ih =
        let w : f ≡ e = some-injective f e h in
        rw (← w) (sym (eqb-true i f.num (and_right f.live (eqb i f.num) r)), t.0)
    go false r h ih = ih h

all_any : (es : List Edge) → All (λ e. Unit {0}) es
all_any [] = tt
all_any (e ∷ es) = (tt, all_any es)

pub at_num : (i : ℕ) (es : List Edge) (e : Edge) → at es i ≡ some e → e.num ≡ i
at_num i es e h = (at_all (λ e. Unit {0}) i es (all_any es) e h).0

-- A map f that leads from g to h
pub map_swap : {A B : Type 0} (f : A → B) (g : A → A) (h : B → B) → ((a : A) → h (f a) ≡ f (g a)) → (l : List A) → map h (map f l) ≡ map f (map g l)
map_swap f g h e [] = refl
map_swap f g h e (x ∷ xs) = rw (e x, map_swap f g h e xs) refl

pub cond_map : {A B : Type 0} (f : A → B) (b : Bool) (x y : A) → f (cond b x y) ≡ cond b (f x) (f y)
cond_map f true x y = refl
cond_map f false x y = refl
