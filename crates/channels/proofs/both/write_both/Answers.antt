-- `channels::both::write_both` meets its contract. Assumes nothing.
use Rattle.std.proofs.Common.{rules, ◌≡◌, length, sym, ap, ◌∙◌}
use Rattle.std.specs.Prelude.{Err}
use Rattle.sweep.specs.Entry.{answer_of}
use Rattle.sweep.specs.Refusal.{missed_by}
use Rattle.channels.specs.Call.{channel_of}
use Rattle.channels.specs.Inside.Both.{behind}
use Rattle.channels.proofs.EndLaws.{vertical_refused, number_some, horizontal_refused, both_written}
use Rattle.channels.proofs.both.write_both.Goals as goal

pub returns-then-is_err : goal.returns-then-is_err
returns-then-is_err c =
    let a = c.args in
    vertical_refused a.f.horizontal a.f.vertical a.w.now (behind (length a.h.valid.now) a.w.now) a.h.valid.now a.v.valid.now a.h.options.centred a.v.options.centred _ (sym c.is_err.ensures.value ∙ c.if-is_err.true)

pub returns-in_err-write : goal.returns-in_err-write
returns-in_err-write c =
    let a = c.args in
    let e : c.from_residual.result ≡ Err c.in_err-write.field-0.0 = search rules in
    rw e (
    horizontal_refused a.f.horizontal a.w.now a.h.valid.now a.h.options.centred _ _ (channel_of a.h_folds.now a.h_doubtful.now a.h_pair.now) (channel_of a.v_folds.now a.v_doubtful.now a.v_pair.now)
    (number_some c.in_err-write.field-0.0) c.in_err-write.ensures
    )

pub returns : goal.returns
returns c =
    let a = c.args in
    both_written a.f.horizontal a.f.vertical a.w.now (behind (length a.h.valid.now) a.w.now) a.h.valid.now a.v.valid.now a.h.options.centred a.v.options.centred _ _
    (channel_of a.h_folds.now a.h_doubtful.now a.h_pair.now) (channel_of a.v_folds.now a.v_doubtful.now a.v_pair.now)
    (ap (λ x. answer_of (missed_by x)) c.in_ok-write.was) (sym c.is_err.ensures.value ∙ c.if-is_err.false) c.write.ensures c.write-2.ensures
