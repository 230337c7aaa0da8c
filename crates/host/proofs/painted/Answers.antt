-- `host::painted` meets its contract: each `return` is a case of `host_answer`, and a frame that is refused leaves the
-- output itself. Assumes nothing.
use mathlib.Core.Path.{refl, ap, ◌∙◌}
use mathlib.Core.Bool.{false}
use Rattle.answers.proofs.Outcomes.{number_of-not_0, answer_of-handed_on}
use Rattle.words.specs.Check.{check_of}
use Rattle.host.proofs.HostLaws.{host-length, host-refused, host-painted}
use Rattle.host.proofs.painted.Goals as goal

pub returns-then-image-ne-IMAGE_LEN : goal.returns-then-image-ne-IMAGE_LEN
returns-then-image-ne-IMAGE_LEN c =
    let r = host-length _ _ _ _ _ c.if-image-ne-IMAGE_LEN.true in
    record { answer = r.0; output = r.1 }

pub returns-in_err-refusal_of : goal.returns-in_err-refusal_of
returns-in_err-refusal_of c =
    let r =
    host-refused _ _ _ _ _ c.if-image-ne-IMAGE_LEN.false _
    (c.in_err-refusal_of.ensures ∙ ap (check_of false) c.words_at-words.ensures) (number_of-not_0 _) in
    record { answer = answer_of-handed_on _ _ c.from_residual.ensures.1 ∙ r.0; output = r.1 }

pub returns-in_err-frame : goal.returns-in_err-frame
returns-in_err-frame c =
    let w = c.words_at-words.ensures in
    let p = c.profile_for-profile.ensures in
    let r =
    host-painted _ _ _ _ _ c.if-image-ne-IMAGE_LEN.false _ _ _
    (c.in_ok-refusal_of.ensures ∙ ap (check_of false) w) refl _ (rw (w, p) at c.in_err-frame.ensures.told)
    (rw (w, p) at c.in_err-frame.ensures.output) in
    record { answer = answer_of-handed_on _ _ c.from_residual-in_err-frame.ensures.1 ∙ r.0; output = r.1 }

pub returns : goal.returns
returns c =
    let w = c.words_at-words.ensures in
    let p = c.profile_for-profile.ensures in
    let r =
    host-painted _ _ _ _ _ c.if-image-ne-IMAGE_LEN.false _ _ _
    (c.in_ok-refusal_of.ensures ∙ ap (check_of false) w) refl _ (rw (w, p) at c.in_ok-frame.ensures.told)
    (rw (w, p) at c.in_ok-frame.ensures.output) in
    record { answer = r.0; output = r.1 }
