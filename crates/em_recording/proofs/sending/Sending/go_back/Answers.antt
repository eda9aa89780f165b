use Rattle.std.proofs.Common.{Bool, arith, subst}
use Rattle.em_recording.specs.Wire.{SentAt}
use Rattle.em_recording.proofs.GatheredLaws.{gathered_back}
use Rattle.em_recording.proofs.WireLaws.{sent_at, sent_none, sent_one, some_sent}
use Rattle.em_recording.proofs.sending.Sending.go_back.Goals as goal

pub overflow_sub-self : goal.overflow_sub-self
overflow_sub-self c =
    let v = c.args.machine.now in
    let came = subst (λ (b : Bool). SentAt v c.args.k b) c.if-takes_off_wire.true
    (sent_at v c.args.k c.in-Some.past c.takes_off_wire.result c.in-Some.ensures.found
    c.takes_off_wire.ensures.before) in
    let any = some_sent v c.args.k c.args.self.now.sent c.requires.there c.requires.here.sent came in
    omega (arith, any)

pub returns-then-takes_off_wire : goal.returns-then-takes_off_wire
returns-then-takes_off_wire c =
    let v = c.args.machine.now in
    let came = subst (λ (b : Bool). SentAt v c.args.k b) c.if-takes_off_wire.true
    (sent_at v c.args.k c.in-Some.past c.takes_off_wire.result c.in-Some.ensures.found
    c.takes_off_wire.ensures.before) in
    record {
      ok = record {
        sent = sent_one v c.args.k c.args.self.now.sent c.requires.there c.requires.here.sent came;
        gathered = gathered_back v c.args.k c.in-Some.past c.last_sent-last.result.now
            c.args.self.now.gathered.items c.gathered_before.new.gathered.items c.in-Some.ensures.found
            c.in_ok-gathered_before.ensures.before c.last_sent-last.ensures.last c.requires.here.gathered;
      };
    }

pub returns-else-takes_off_wire : goal.returns-else-takes_off_wire
returns-else-takes_off_wire c =
    let v = c.args.machine.now in
    let came = subst (λ (b : Bool). SentAt v c.args.k b) c.if-takes_off_wire.false
    (sent_at v c.args.k c.in-Some.past c.takes_off_wire.result c.in-Some.ensures.found
    c.takes_off_wire.ensures.before) in
    record {
      ok = record {
        sent = sent_none v c.args.k c.args.self.now.sent c.requires.there c.requires.here.sent came;
        gathered = gathered_back v c.args.k c.in-Some.past c.last_sent-last.result.now
            c.args.self.now.gathered.items c.gathered_before.new.gathered.items c.in-Some.ensures.found
            c.in_ok-gathered_before.ensures.before c.last_sent-last.ensures.last c.requires.here.gathered;
      };
    }
