use Rattle.std.proofs.Common.{◌∙◌, sym}
use Rattle.em_debugger.proofs.debugger.Debugger.load_read.Goals as goal

pub returns-then-is_capture : goal.returns-then-is_capture
returns-then-is_capture g c = record { ok = rw (sym c.is_capture.ensures ∙ c.if-is_capture.true) c.offer.ensures.ok }

pub returns-else-is_capture : goal.returns-else-is_capture
returns-else-is_capture g c =
    record { ok = rw (sym c.is_capture.ensures ∙ c.if-is_capture.false) c.begin_instead.ensures.ok }
