-- Pairs stored after pairs. Assumes nothing.
use Rattle.std.proofs.Common.{◌≡◌, ℕ, suc, ◌+◌, ◌*◌, ◌≤◌, Bool, List, [], ◌∷◌, ◌++◌, map, length, set, sym, refl, ap, ◌∙◌, arith, length-append}
use lib.ListN.{length-map}
use Rattle.lists.specs.Inside.Seg.{seg, put}
use Rattle.lists.proofs.SegLaws.{length-put, set-put_above, seg-put_below, seg-put_same}
use Rattle.lists.proofs.SeqLaws.{map_append}
use Rattle.edges.specs.Inside.GatePairs.{GatePair, both, coded, gate_word, far_word, stored, AddsPairs}

module _ {A : Type 0} where
  put_append : (w : List A) (b : ℕ) (us vs : List A) → put (put w b us) (b + length us) vs ≡ put w b (us ++ vs)
  unfolding put
  put_append w b [] vs = ap (λ (x : ℕ). put w x vs) (omega arith)
  put_append w b (u ∷ us) vs = ap (λ (x : ℕ). put (put (set w b u) (suc b) us) x vs) (omega arith) ∙ put_append (set w b u) (suc b) us vs

  put_swap : (w : List A) (a : ℕ) (us : List A) (b : ℕ) (vs : List A) → a + length us ≤ b → put (put w a us) b vs ≡ put (put w b vs) a us
  unfolding put
  put_swap w a us b [] h = refl
  put_swap w a us b (v ∷ vs) h = ap (λ (l : List A). put l (suc b) vs) (set-put_above w a us b v h) ∙ put_swap (set w b v) a us (suc b) vs (omega arith)

abbrev pub gates : List GatePair → List ℕ
gates ts = map gate_word ts

abbrev pub fars : List GatePair → List ℕ
fars ts = map far_word ts

length_stored : (w : List ℕ) (n c : ℕ) (ts : List GatePair) → length (stored w n c ts) ≡ length w
unfolding stored
length_stored w n c ts = simp length-put refl

stored_one : (w : List ℕ) (n c g h : ℕ) (b : Bool) → stored w n c (both g h b ∷ []) ≡ set (set w (n + c) (coded b g)) (5 * n + c) (coded b h)
unfolding stored put
stored_one w n c g h b = refl

stored_append : (w : List ℕ) (n c : ℕ) (xs ys : List GatePair) → c + length xs + length ys ≤ 4 * n → stored (stored w n c xs) n (c + length xs) ys ≡ stored w n c (xs ++ ys)
unfolding stored
stored_append w n c xs ys h =
    let lg : length (gates xs) ≡ length xs = length-map xs gate_word in
    let lf : length (fars xs) ≡ length xs = length-map xs far_word in
    let mg : length (gates ys) ≡ length ys = length-map ys gate_word in
    let W : List ℕ = put w (n + c) (gates xs) in
    ap (λ (l : List ℕ). put l (5 * n + (c + length xs)) (fars ys)) (sym (put_swap W (n + (c + length xs)) (gates ys) (5 * n + c) (fars xs) (omega arith)))
    ∙ ap (λ (x : ℕ). put (put (put W (n + (c + length xs)) (gates ys)) (5 * n + c) (fars xs)) x (fars ys)) (omega arith)
    ∙ put_append (put W (n + (c + length xs)) (gates ys)) (5 * n + c) (fars xs) (fars ys)
    ∙ ap (λ (x : ℕ). put (put W x (gates ys)) (5 * n + c) (fars xs ++ fars ys)) {x = n + (c + length xs)} {y = n + c + length (gates xs)} (omega arith)
    ∙ ap (λ (l : List ℕ). put l (5 * n + c) (fars xs ++ fars ys)) (put_append w (n + c) (gates xs) (gates ys))
    ∙ ap (λ (l : List ℕ). put (put w (n + c) l) (5 * n + c) (fars xs ++ fars ys)) (sym (map_append gate_word xs ys))
    ∙ ap (λ (l : List ℕ). put (put w (n + c) (gates (xs ++ ys))) (5 * n + c) l) (sym (map_append far_word xs ys))

stored_labels : (w : List ℕ) (n c : ℕ) (ts : List GatePair) → seg (stored w n c ts) 0 n ≡ seg w 0 n
unfolding stored
stored_labels w n c ts = seg-put_below (put w (n + c) (gates ts)) (5 * n + c) (fars ts) 0 n (omega arith) ∙ seg-put_below w (n + c) (gates ts) 0 n (omega arith)

-- ---- what callers use

pub adds_none : (n : ℕ) (w : List ℕ) (c : ℕ) → AddsPairs n w w c c []
unfolding stored put
adds_none n w c = record { mem = refl; count = omega arith }

pub adds_one : (n : ℕ) (w : List ℕ) (c g h : ℕ) (b : Bool) → AddsPairs n w (set (set w (n + c) (coded b g)) (5 * n + c) (coded b h)) c (c + 1) (both g h b ∷ [])
adds_one n w c g h b = record { mem = sym (stored_one w n c g h b); count = omega arith }

pub adds_then : (n : ℕ) (u v w : List ℕ) (a b c : ℕ) (xs ys : List GatePair) → AddsPairs n u v a b xs → AddsPairs n v w b c ys → c ≤ 4 * n → AddsPairs n u w a c (xs ++ ys)
adds_then n u v w a b c xs ys p q h = record {
  mem = q.mem ∙ ap (λ (l : List ℕ). stored l n b ys) p.mem ∙ ap (λ (x : ℕ). stored (stored u n a xs) n x ys) p.count ∙ stored_append u n a xs ys (omega (arith, p.count, q.count));
  count = omega (arith, p.count, q.count, length-append xs ys);
}

pub adds_labels : (n : ℕ) (w v : List ℕ) (c e : ℕ) (ts : List GatePair) → AddsPairs n w v c e ts → seg v 0 n ≡ seg w 0 n
adds_labels n w v c e ts p = ap (λ (l : List ℕ). seg l 0 n) p.mem ∙ stored_labels w n c ts

pub adds_length : (n : ℕ) (w v : List ℕ) (c e : ℕ) (ts : List GatePair) → AddsPairs n w v c e ts → length v ≡ length w
adds_length n w v c e ts p = ap length p.mem ∙ length_stored w n c ts

-- the stored pairs, read
pub adds_gates : (n : ℕ) (w v : List ℕ) (e : ℕ) (ts : List GatePair) → AddsPairs n w v 0 e ts → 9 * n ≤ length w → e ≤ 4 * n → seg v n e ≡ gates ts
unfolding stored
adds_gates n w v e ts p r h =
    let lg : length (gates ts) ≡ length ts = length-map ts gate_word in
    let ee : e ≡ length (gates ts) = omega (arith, p.count) in
    ap (λ (l : List ℕ). seg l n e) p.mem
    ∙ seg-put_below (put w (n + 0) (gates ts)) (5 * n + 0) (fars ts) n e (omega arith)
    ∙ ap (λ (x : ℕ). seg (put w x (gates ts)) n e) (omega arith)
    ∙ ap (λ (x : ℕ). seg (put w n (gates ts)) n x) ee
    ∙ seg-put_same w n (gates ts) (omega arith)

pub adds_fars : (n : ℕ) (w v : List ℕ) (e : ℕ) (ts : List GatePair) → AddsPairs n w v 0 e ts → 9 * n ≤ length w → e ≤ 4 * n → seg v (5 * n) e ≡ fars ts
unfolding stored
adds_fars n w v e ts p r h =
    let lf : length (fars ts) ≡ length ts = length-map ts far_word in
    let ee : e ≡ length (fars ts) = omega (arith, p.count) in
    ap (λ (l : List ℕ). seg l (5 * n) e) p.mem
    ∙ ap (λ (x : ℕ). seg (put (put w (n + 0) (gates ts)) x (fars ts)) (5 * n) e) (omega arith)
    ∙ ap (λ (x : ℕ). seg (put (put w (n + 0) (gates ts)) (5 * n) (fars ts)) (5 * n) x) ee
    ∙ seg-put_same (put w (n + 0) (gates ts)) (5 * n) (fars ts) (omega (arith, length-put w (n + 0) (gates ts)))
