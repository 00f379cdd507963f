-- The mean's numerator and denominator are the sums over the regions' tables. Assumes nothing.
use Rattle.std.proofs.Common.{◌≡◌, ℕ, zero, suc, ◌+◌, ◌-◌, ◌*◌, ◌<◌, ◌≤◌, List, [], ◌∷◌, map, length, ℤ, pos, negsuc, ◌+ℤ◌, ◌-ℤ◌, ◌*ℤ◌, neg_ℤ, sym, refl, ap, ◌∙◌, ⊎_elim, mul_comm, mul-add, arith, ne_eqb}
use lib.IntN.{sub_ℕ, +ℤ_assoc, +ℤ_comm, +ℤ_idl, neg_ℤ-+ℤ}
use Rattle.lists.specs.Seq.{upto}
use Rattle.lists.proofs.SeqLaws.{eqb_refl}
use Rattle.network.specs.Network.{Region, State, Edge, Plan, plan, at, step, step_to, merge, move, replay, start, count_of, alone, gates_of}
use Rattle.edges.specs.declared.edges.EdgeRecord.{EdgeRecord}
use mathlib.Core.Option.{Option, none, some}
use lib.Ieee.{Float}
use Rattle.merge.specs.Inside.Steps.{unbias}
use Rattle.merge.proofs.Bias.{lt_or_le, unbias_up, unbias_down, sub_low, sub_high}
use Rattle.sweep.specs.Sweep.{weighed}
use Rattle.sweep.specs.Inside.Mean.{sum_from}
use Rattle.sweep.proofs.SignedLaws.{sub_is}

-- ---- differences of two numbers

sub_same : (a b c d : ℕ) → a + d ≡ c + b → sub_ℕ a b ≡ sub_ℕ c d
sub_same a b c d e = ⊎_elim
    (λ p. sub_low a b p ∙ ap negsuc (omega arith) ∙ sym (sub_low c d (omega arith)))
    (λ p. sub_high a b p ∙ ap pos (omega arith) ∙ sym (sub_high c d (omega arith)))
    (lt_or_le a b)

four : (a b c d : ℤ) → (a +ℤ b) +ℤ (c +ℤ d) ≡ (a +ℤ c) +ℤ (b +ℤ d)
four a b c d =
    +ℤ_assoc a b (c +ℤ d)
    ∙ ap (λ (z : ℤ). a +ℤ z) (sym (+ℤ_assoc b c d) ∙ ap (λ (z : ℤ). z +ℤ d) (+ℤ_comm b c) ∙ +ℤ_assoc c b d)
    ∙ sym (+ℤ_assoc a c (b +ℤ d))

sub_add : (a b c d : ℕ) → sub_ℕ a b +ℤ sub_ℕ c d ≡ sub_ℕ (a + c) (b + d)
sub_add a b c d =
    ap (λ (z : ℤ). z +ℤ sub_ℕ c d) (sym (sub_is a b))
    ∙ ap (λ (z : ℤ). (pos a -ℤ pos b) +ℤ z) (sym (sub_is c d))
    ∙ four (pos a) (neg_ℤ (pos b)) (pos c) (neg_ℤ (pos d))
    ∙ ap (λ (z : ℤ). pos (a + c) +ℤ z) (sym (neg_ℤ-+ℤ (pos b) (pos d)))
    ∙ sub_is (a + c) (b + d)

-- a size times a count, the count kept as a word
times_word : (s c : ℕ) → pos s *ℤ unbias c ≡ sub_ℕ (s * c) (1000 * s)
times_word s c = ⊎_elim
    (λ p.
    let d : ℕ = suc (999 - c) in
    let t : s * (c + d) ≡ s * c + s * d = mul-add s c d in
    let u : s * (c + d) ≡ 1000 * s = ap (λ (x : ℕ). s * x) {x = c + d} {y = 1000} (omega arith) ∙ mul_comm s 1000 in
    ap (λ (z : ℤ). pos s *ℤ z) (unbias_down c p) ∙ sym (+ℤ_idl (neg_ℤ (pos (s * d)))) ∙ sub_is 0 (s * d) ∙ sub_same 0 (s * d) (s * c) (1000 * s) (omega arith))
    (λ p.
    let d : ℕ = c - 1000 in
    let t : s * (d + 1000) ≡ s * d + s * 1000 = mul-add s d 1000 in
    let u : s * (d + 1000) ≡ s * c = ap (λ (x : ℕ). s * x) {x = d + 1000} {y = c} (omega arith) in
    let v : s * 1000 ≡ 1000 * s = mul_comm s 1000 in
    ap (λ (z : ℤ). pos s *ℤ z) (unbias_up c p) ∙ sym (sub_high (s * d) 0 (omega arith) ∙ ap pos (omega arith)) ∙ sub_same (s * d) 0 (s * c) (1000 * s) (omega arith))
    (lt_or_le c 1000)

-- ---- regions labelled i, i + 1, .., with sizes by S and counts kept as words by C

abbrev tail_of : {A : Type 0} → List A → List A
tail_of [] = []
tail_of (x ∷ l) = l

abbrev head_of : List ℕ → ℕ
head_of [] = 0
head_of (x ∷ l) = x

count_here : (r : Region) (rs : List Region) → count_of (r ∷ rs) r.label ≡ r.count
unfolding count_of
count_here r rs = rw (eqb_refl r.label) refl

count_there : (r : Region) (rs : List Region) (l : ℕ) → (l ≡ r.label → ⊥) → count_of (r ∷ rs) l ≡ count_of rs l
unfolding count_of
count_there r rs l h = rw (ne_eqb l r.label h) refl

pub weighed_is : (rs : List Region) (k i : ℕ) (S C : ℕ → ℕ) → map (λ (r : Region). r.label) rs ≡ upto k i → map (λ (r : Region). r.size) rs ≡ map S (upto k i)
    → ((l : ℕ) → i ≤ l → l < i + k → count_of rs l ≡ unbias (C l)) → weighed rs ≡ sub_ℕ (sum_from (λ l. S l * C l) i k) (1000 * sum_from S i k)
unfolding upto weighed sum_from
weighed_is [] zero i S C a b c = refl
weighed_is (r ∷ rs) zero i S C a b c = absurd (no_list (sym (ap length a)))
  where
    no_list : 0 ≡ suc (length (map (λ (r : Region). r.label) rs)) → ⊥
    no_list e = omega arith
weighed_is [] (suc k) i S C a b c = absurd (no_list (ap length a))
  where
    no_list : 0 ≡ suc (length (upto k (suc i))) → ⊥
    no_list e = omega arith
weighed_is (r ∷ rs) (suc k) i S C a b c =
    let li : r.label ≡ i = ap head_of a in
    let si : r.size ≡ S i = ap head_of b in
    let ci : r.count ≡ unbias (C i) = sym (count_here r rs) ∙ ap (count_of (r ∷ rs)) li ∙ c i (omega arith) (omega arith) in
    let ih = weighed_is rs k (suc i) S C (ap tail_of a) (ap tail_of b) (λ l p q. sym (count_there r rs l (λ e. omega arith)) ∙ c l (omega arith) (omega arith)) in
    let A : ℕ = sum_from (λ l. S l * C l) (suc i) k in
    let B : ℕ = sum_from S (suc i) k in
    let m : 1000 * (S i + B) ≡ 1000 * S i + 1000 * B = mul-add 1000 (S i) B in
    ap (λ (x : ℕ). (pos x *ℤ r.count) +ℤ weighed rs) si
    ∙ ap (λ (z : ℤ). (pos (S i) *ℤ z) +ℤ weighed rs) ci
    ∙ ap (λ (z : ℤ). z +ℤ weighed rs) (times_word (S i) (C i))
    ∙ ap (λ (z : ℤ). sub_ℕ (S i * C i) (1000 * S i) +ℤ z) ih
    ∙ sub_add (S i * C i) (1000 * S i) A (1000 * B)
    ∙ ap (sub_ℕ (S i * C i + A)) (sym m)

pub gates_is : (rs : List Region) (k i : ℕ) (S : ℕ → ℕ) → map (λ (r : Region). r.size) rs ≡ map S (upto k i) → gates_of rs ≡ sum_from S i k
unfolding upto gates_of sum_from
gates_is [] zero i S b = refl
gates_is (r ∷ rs) zero i S b = absurd (no_list (sym (ap length b)))
  where
    no_list : 0 ≡ suc (length (map (λ (r : Region). r.size) rs)) → ⊥
    no_list e = omega arith
gates_is [] (suc k) i S b = absurd (no_list (ap length b))
  where
    no_list : 0 ≡ suc (length (map S (upto k (suc i)))) → ⊥
    no_list e = omega arith
gates_is (r ∷ rs) (suc k) i S b = ap (λ (x : ℕ). x + gates_of rs) (ap head_of b) ∙ ap (λ (x : ℕ). S i + x) (gates_is rs k (suc i) S (ap tail_of b))

-- ---- labels and sizes stay over a run

map_kept : {A B : Type 0} (k : A → B) (g : A → A) → ((a : A) → k (g a) ≡ k a) → (l : List A) → map k (map g l) ≡ map k l
map_kept k g h [] = refl
map_kept k g h (x ∷ l) = ap (λ (y : _). y ∷ map k (map g l)) (h x) ∙ ap (λ (t : List _). k x ∷ t) (map_kept k g h l)

module _ {B : Type 0} (key : Region → B) (kept : (p : Plan) (r : Region) → key (move p r) ≡ key r) where
  step_kept : (s : State) (i : ℕ) → map key (step s i).regions ≡ map key s.regions
  unfolding step step_to merge
  step_kept s i = go (at s.edges i)
    where
      go : (o : Option Edge) → map key (step_to o s).regions ≡ map key s.regions
      go none = refl
      go (some e) = map_kept key (move (plan s.regions e)) (kept (plan s.regions e)) s.regions

  replay_kept : (l : List ℕ) (s : State) → map key (replay s l).regions ≡ map key s.regions
  unfolding replay
  replay_kept [] s = refl
  replay_kept (i ∷ l) s = replay_kept l (step s i) ∙ step_kept s i

alone_labels : (k i : ℕ) (S : ℕ → ℕ) (j : ℕ) → map (λ (r : Region). r.label) (alone j (map S (upto k i))) ≡ upto k j
unfolding upto alone
alone_labels zero i S j = refl
alone_labels (suc k) i S j = ap (λ (t : List ℕ). j ∷ t) (alone_labels k (suc i) S (suc j))

alone_sizes : (ns : List ℕ) (j : ℕ) → map (λ (r : Region). r.size) (alone j ns) ≡ ns
unfolding alone
alone_sizes [] j = refl
alone_sizes (n ∷ ns) j = ap (λ (t : List ℕ). n ∷ t) (alone_sizes ns (suc j))

module _ (two_nyquist : Float) (es : List EdgeRecord) (k : ℕ) (S : ℕ → ℕ) (l : List ℕ) where
  pub last_labels : map (λ (r : Region). r.label) (replay (start two_nyquist es (map S (upto k 1))) l).regions ≡ upto k 1
  last_labels = replay_kept (λ (r : Region). r.label) (λ p r. unfold move in refl) l (start two_nyquist es (map S (upto k 1))) ∙ (unfold start in alone_labels k 1 S 1)

  pub last_sizes : map (λ (r : Region). r.size) (replay (start two_nyquist es (map S (upto k 1))) l).regions ≡ map S (upto k 1)
  last_sizes = replay_kept (λ (r : Region). r.size) (λ p r. unfold move in refl) l (start two_nyquist es (map S (upto k 1))) ∙ (unfold start in alone_sizes (map S (upto k 1)) 1)
