-- `labels::regions::join_all` meets its contract. The invariant: the gates before g are placed. Assumes nothing.
use Rattle.labels.proofs.ScanLaws.{scan_begin, scan_next, scan_end}
use Rattle.std.proofs.Common.{◌≡◌, ◌+◌, ◌-◌, length, refl, arith}
use Rattle.labels.specs.Locals.{NoArray}
use Rattle.labels.proofs.regions.join_all.Code.Mir.{function}
use Rattle.labels.proofs.regions.join_all.Goals.{then-b-ne0, else-b-ne0, then-along-gates, else-along-gates, then-along-eq0, else-along-eq0}
use Rattle.labels.proofs.regions.join_all.Goals as goal

no_array : NoArray function
no_array = refl

pub loop-g-init : goal.loop-g-init
loop-g-init c =
    let s = c.args.s in
    scan_begin s.per_ray s.limits.now s.velocity.now s.valid.now (length s.velocity.now) c.args.u.now (length s.limits.now - 1) c.requires.zeros

pub loop-g-preserved : goal.loop-g-preserved
loop-g-preserved c =
    let s = c.args.s in
    let l = c.loop-g in
    let f = c.near-b in
    let p = c.place-word in
    let last : (f.result ≡ 0 → c.if-b-ne0.last ≡ l.last) × ((f.result ≡ 0 → ⊥) → c.if-b-ne0.last ≡ f.result) =
    elim c.if-b-ne0.branch [ then-b-ne0 w ↦ (λ z. absurd (w.if-b-ne0.true z), λ n. w.last-is) | else-b-ne0 w ↦ (λ z. w.last-is, λ n. absurd (n w.if-b-ne0.false)) ] in
    let along : (l.along + 1 ≡ s.per_ray → c.if-along-gates.along ≡ 0) × ((l.along + 1 ≡ s.per_ray → ⊥) → c.if-along-gates.along ≡ l.along + 1) =
    elim c.if-along-gates.branch [ then-along-gates w ↦ (λ z. w.along-is, λ n. absurd (n w.if-along-gates.true)) | else-along-gates w ↦ (λ z. absurd (w.if-along-gates.false z), λ n. w.along-is) ] in
    let before : (c.if-along-gates.along ≡ 0 → c.if-along-eq0.before ≡ 0) × ((c.if-along-gates.along ≡ 0 → ⊥) → c.if-along-eq0.before ≡ f.result) =
    elim c.if-along-eq0.branch [ then-along-eq0 w ↦ (λ z. w.before-is, λ n. absurd (n w.if-along-eq0.true)) | else-along-eq0 w ↦ (λ z. absurd (w.if-along-eq0.false z), λ n. w.before-is) ] in
    scan_next s.per_ray s.limits.now s.velocity.now s.valid.now (length s.velocity.now) l.u l.last l.before l.word l.along l.g l.invariant s.sound (omega arith) c.loop-g-test.true
    f.result f.ensures p.new.u p.auto.u p.result p.ensures c.if-b-ne0.last c.if-along-gates.along c.if-along-eq0.before last along before

pub returns : goal.returns
returns c =
    let s = c.args.s in
    let l = c.loop-g in
    let h = scan_end s.per_ray s.limits.now s.velocity.now s.valid.now (length s.velocity.now) l.u l.last l.before l.word l.along l.g l.invariant (omega arith) s.sound (omega arith) in
    record { bands = h.0; areas_of = h.1 }
