use Rattle.std.proofs.Common.{◌≡◌, ◌+◌, ◌-◌, ◌++◌, ◌∷◌, [], ℕ, List, length, drop, refl, sym, ap, ◌∙◌, arith}
use Rattle.std.proofs.lemmas.Grind.{common_steps}
use Rattle.em_pcap.specs.declared.form.Step.TheVariants.{Ends, Stops, Gives, Opens, Adds, Skips}
use Rattle.em_pcap.specs.Frame.{header_octets}
use Rattle.em_pcap.specs.Reading.{and_then, reading_from}
use Rattle.em_pcap.proofs.ReadingLaws.{done}
use Rattle.em_pcap.proofs.CaptureLaws.{left_here, moved, packet_in, adds_here, adds_moved, calls_there, calls_fewer}
use Rattle.em_pcap.proofs.capture.Capture.next_packet.Goals as goal

pub returns-in-Ends-clause-next : goal.returns-in-Ends-clause-next
returns-in-Ends-clause-next c =
    let s = c.loop-self.self in
    let arm = c.in-Ends.ensures in
    (sym c.loop-self.invariant.left ∙ left_here s _ Ends c.as_slice.ensures.value arm.step arm.within, done _ 0 _ _)

pub returns-in-Stops-clause-next : goal.returns-in-Stops-clause-next
returns-in-Stops-clause-next c =
    let s = c.loop-self.self in
    let arm = c.in-Stops.ensures in (
      sym c.loop-self.invariant.left
          ∙ left_here s _ (Stops c.in-Stops.kind) c.as_slice.ensures.value arm.step arm.within,
      done _ 0 _ _,
    )

pub returns-in-Stops-clause-fewer : goal.returns-in-Stops-clause-fewer
returns-in-Stops-clause-fewer c = λ is.
    let s = c.loop-self.self in
    let calls = calls_there s.form _ _ (Stops c.in-Stops.kind) (length s.file.now - s.offset) c.in-Stops.ensures.step
    (λ e. cc) in
    omega (arith, calls, c.loop-self.invariant.calls)

pub returns-in-Gives-clause-next : goal.returns-in-Gives-clause-next
returns-in-Gives-clause-next c =
    let s = c.loop-self.self in
    let found = c.in-Gives.found in
    let arm = c.in-Gives.ensures in
    let rest = moved s.form s.interfaces.items s.interfaces.items s.offset found.len s.file.now refl in
    sym c.loop-self.invariant.left ∙ left_here s _ (Gives found) c.as_slice.ensures.value arm.step arm.within
    ∙ ap (λ (o : List ℕ). and_then
    (record { octets = header_octets found.header ++ o; original = found.original; time = found.time })
    (reading_from s.form s.interfaces.items 0 (s.offset + found.len) (drop found.len (drop s.offset s.file.now))))
    (sym (packet_in found.at found.captured s.offset s.file.now))
    ∙ ap (and_then _) (sym rest)

pub returns-in-Gives-clause-fewer : goal.returns-in-Gives-clause-fewer
returns-in-Gives-clause-fewer c = λ is.
    let s = c.loop-self.self in
    let found = c.in-Gives.found in
    let arm = c.in-Gives.ensures in
    let calls = calls_there s.form _ _ (Gives found) (length s.file.now - s.offset) arm.step (λ e. cc) in
    let fewer = calls_fewer s.form s.offset found.len s.file.now s.within arm.within.0 in
    omega (arith, calls, c.loop-self.invariant.calls, fewer)

pub loop-self-preserved-in-Opens : goal.loop-self-preserved-in-Opens
loop-self-preserved-in-Opens c =
    let s = c.loop-self.self in
    let len = c.in-Opens.len in
    let form = c.in-Opens.form in
    let arm = c.in-Opens.ensures in
    let calls = calls_there s.form _ _ (Opens len form) (length s.file.now - s.offset) arm.step (λ e. cc) in
    let fewer = calls_fewer form s.offset len s.file.now s.within arm.within in
    record {
      left = moved form c.clear.new.self.items [] s.offset len s.file.now c.clear.ensures.items
          ∙ sym (left_here s _ (Opens len form) c.as_slice.ensures.value arm.step arm.within)
          ∙ c.loop-self.invariant.left;
      adds = λ is.
          c.loop-self.invariant.adds (adds_here s _ (Opens len form) c.as_slice.ensures.value arm.step arm.within
          ∙ sym (adds_moved form c.clear.new.self.items [] s.offset len s.file.now c.clear.ensures.items) ∙ is);
      calls = omega (arith, calls, c.loop-self.invariant.calls, fewer);
    }

pub returns-then-is_err-clause-next : goal.returns-then-is_err-clause-next
returns-then-is_err-clause-next c = done _ 0 _ _

pub returns-then-is_err-clause-memory : goal.returns-then-is_err-clause-memory
returns-then-is_err-clause-memory c = λ is.
    let s = c.loop-self.self in
    let arm = c.in-Adds.ensures in
    c.loop-self.invariant.adds
    (adds_here s _ (Adds c.in-Adds.len c.in-Adds.interface) c.as_slice.ensures.value arm.step arm.within)

pub returns-then-is_err-clause-fewer : goal.returns-then-is_err-clause-fewer
returns-then-is_err-clause-fewer c = λ is.
    let s = c.loop-self.self in
    let calls = calls_there s.form _ _ (Adds c.in-Adds.len c.in-Adds.interface) (length s.file.now - s.offset)
    c.in-Adds.ensures.step (λ e. cc) in
    omega (arith, calls, c.loop-self.invariant.calls)

pub loop-self-preserved-in-Adds : goal.loop-self-preserved-in-Adds
loop-self-preserved-in-Adds c =
    let s = c.loop-self.self in
    let len = c.in-Adds.len in
    let interface = c.in-Adds.interface in
    let arm = c.in-Adds.ensures in
    let pushed : c.push.new.self.items ≡ s.interfaces.items ++ interface ∷ [] =
    grind (arith, common_steps, c.push.ensures.items, c.is_err.ensures.negation, c.if-is_err.false) in
    let calls = calls_there s.form _ _ (Adds len interface) (length s.file.now - s.offset) arm.step (λ e. cc) in
    let fewer = calls_fewer s.form s.offset len s.file.now s.within arm.within in
    record {
      left = moved s.form c.push.new.self.items (s.interfaces.items ++ interface ∷ []) s.offset len s.file.now pushed
          ∙ sym (left_here s _ (Adds len interface) c.as_slice.ensures.value arm.step arm.within)
          ∙ c.loop-self.invariant.left;
      adds = λ is.
          c.loop-self.invariant.adds (adds_here s _ (Adds len interface) c.as_slice.ensures.value arm.step arm.within);
      calls = omega (arith, calls, c.loop-self.invariant.calls, fewer);
    }

pub loop-self-preserved : goal.loop-self-preserved
loop-self-preserved c =
    let s = c.loop-self.self in
    let len = c.in-Skips.len in
    let arm = c.in-Skips.ensures in
    let interfaces = s.interfaces.items in
    let calls = calls_there s.form _ _ (Skips len) (length s.file.now - s.offset) arm.step (λ e. cc) in
    let fewer = calls_fewer s.form s.offset len s.file.now s.within arm.within in
    record {
      left = moved s.form interfaces interfaces s.offset len s.file.now refl
          ∙ sym (left_here s _ (Skips len) c.as_slice.ensures.value arm.step arm.within) ∙ c.loop-self.invariant.left;
      adds = λ is.
          c.loop-self.invariant.adds (adds_here s _ (Skips len) c.as_slice.ensures.value arm.step arm.within
          ∙ sym (adds_moved s.form interfaces interfaces s.offset len s.file.now refl) ∙ is);
      calls = omega (arith, calls, c.loop-self.invariant.calls, fewer);
    }
