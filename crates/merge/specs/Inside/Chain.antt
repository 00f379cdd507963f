-- Chains of slots: circles, each led by one of its slots.
use Rattle.std.specs.Prelude.{◌≡◌, ℕ, zero, suc, ◌+◌, ◌-◌, ◌<◌, cond, ◌&&◌, List, ◌==◌, nat_lt, slice_index}

-- the slot i links after x
unfoldable pub cur : List ℕ → ℕ → ℕ → ℕ
cur N x zero = x
cur N x (suc i) = cur N (slice_index N x) i

-- the links N form circles: slot s is in the circle that own s leads, at place pos s; a circle led by h has len h slots
pub record Chains (N : List ℕ) (size : ℕ) (own pos len : ℕ → ℕ) : Type 0 where
  pub head : (s : ℕ) → s < size → own s < size
  pub top : (s : ℕ) → s < size → own (own s) ≡ own s
  pub here : (s : ℕ) → s < size → pos s < len (own s)
  pub at : (s : ℕ) → s < size → cur N (own s) (pos s) ≡ s
  pub inside : (h i : ℕ) → h < size → own h ≡ h → i < len h → cur N h i < size
  pub owned : (h i : ℕ) → h < size → own h ≡ h → i < len h → own (cur N h i) ≡ h
  pub placed : (h i : ℕ) → h < size → own h ≡ h → i < len h → pos (cur N h i) ≡ i
  pub close : (h : ℕ) → h < size → own h ≡ h → cur N h (len h) ≡ h

-- the circle of c goes into that of b
unfoldable pub own_joined : (ℕ → ℕ) → ℕ → ℕ → ℕ → ℕ
own_joined own b c s = cond (c == own s) b (own s)

unfoldable pub pos_joined : (ℕ → ℕ) → (ℕ → ℕ) → (ℕ → ℕ) → ℕ → ℕ → ℕ → ℕ
pos_joined own pos len b c s =
    cond (c == own s) (cond (c == s) (len c) (pos s))
    (cond (b == own s) (cond (b == s) 0 (pos s + len c)) (pos s))

unfoldable pub len_joined : (ℕ → ℕ) → ℕ → ℕ → ℕ → ℕ
len_joined len b c h = cond (b == h) (len b + len c) (len h)

-- slot x is taken out of its circle, and is a circle of its own
unfoldable pub own_split : (ℕ → ℕ) → ℕ → ℕ → ℕ
own_split own x s = cond (x == s) x (own s)

unfoldable pub pos_split : (ℕ → ℕ) → (ℕ → ℕ) → ℕ → ℕ → ℕ
pos_split own pos x s = cond (x == s) 0 (cond (own x == own s && nat_lt (pos x) (pos s)) (pos s - 1) (pos s))

unfoldable pub len_split : (ℕ → ℕ) → (ℕ → ℕ) → ℕ → ℕ → ℕ
len_split own len x h = cond (x == h) 1 (cond (own x == h) (len h - 1) (len h))
