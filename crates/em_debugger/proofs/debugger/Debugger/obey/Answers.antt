use Rattle.std.proofs.Common.{false, refl, true}
use Rattle.em_prompt.specs.BenchLine.{plain as plain_line}
use Rattle.em_prompt.specs.Until.{plain as plain_until}
use Rattle.em_prompt.specs.Watch.{plain as plain_watch}
use Rattle.em_prompt.specs.Typed.{arrive_all, arrive_next, line, mark, next, run_until, who, who_again}
use Rattle.em_prompt.specs.Typed.{pcap, pcap_over, save, save_over}
use Rattle.em_debugger.specs.Answering.{Obeys}
use Rattle.em_debugger.specs.Disk.{Did}
use Rattle.em_debugger.specs.Files.{Saves}
use Rattle.em_debugger.specs.Offers.{SavesFrames}
use Rattle.em_debugger.proofs.AnsweringLaws.{alone, shown}
use Rattle.em_debugger.proofs.TextLaws.{OnOk-told}
use Rattle.em_debugger.proofs.debugger.Debugger.obey.Goals as goal

pub returns-in-Line : goal.returns-in-Line
returns-in-Line g c = record { ok = rw c.in-Line.is (alone (Did g.D.Disk.passes c.args.disk.now c.args.disk.now) c.args.self.now c.perform_typed.new.self (line (plain_line c.in-Line.line)) _ _ c.perform_typed.result refl (λ t h. h) c.perform_typed.ensures.ok) }

pub returns-in-Next : goal.returns-in-Next
returns-in-Next g c = record { ok = rw c.in-Next.is (alone (Did g.D.Disk.passes c.args.disk.now c.args.disk.now) c.args.self.now c.next.new.self (next c.in-Next.count) _ _ c.next.result refl (λ t h. h) c.next.ensures.ok) }

pub returns-in-RunUntil : goal.returns-in-RunUntil
returns-in-RunUntil g c = record { ok = rw c.in-RunUntil.is (alone (Did g.D.Disk.passes c.args.disk.now c.args.disk.now) c.args.self.now c.run_until.new.self (run_until (plain_until c.in-RunUntil.until)) _ _ c.run_until.result refl (λ t h. h) c.run_until.ensures.ok) }

pub returns-in-Who : goal.returns-in-Who
returns-in-Who g c = record { ok = rw c.in-Who.is (alone (Did g.D.Disk.passes c.args.disk.now c.args.disk.now) c.args.self.now c.who.new.self (who (plain_watch c.in-Who.watch) c.in-Who.which) _ _ c.who.result refl (λ t h. h) c.who.ensures.ok) }

pub returns-in-WhoAgain : goal.returns-in-WhoAgain
returns-in-WhoAgain g c = record { ok = rw c.in-WhoAgain.is (alone (Did g.D.Disk.passes c.args.disk.now c.args.disk.now) c.args.self.now c.who_again.new.self (who_again) _ _ c.who_again.result refl (λ t h. h) c.who_again.ensures.ok) }

pub returns-in-ArriveNext : goal.returns-in-ArriveNext
returns-in-ArriveNext g c = record { ok = rw c.in-ArriveNext.is (alone (Did g.D.Disk.passes c.args.disk.now c.args.disk.now) c.args.self.now c.arrive_next.new.self (arrive_next) _ _ c.arrive_next.result refl (λ t h. h) c.arrive_next.ensures.ok) }

pub returns-in-ArriveAll : goal.returns-in-ArriveAll
returns-in-ArriveAll g c = record { ok = rw c.in-ArriveAll.is (alone (Did g.D.Disk.passes c.args.disk.now c.args.disk.now) c.args.self.now c.arrive_all.new.self (arrive_all) _ _ c.arrive_all.result refl (λ t h. h) c.arrive_all.ensures.ok) }

pub returns-in-Load : goal.returns-in-Load
returns-in-Load g c = record { ok = rw c.in-Load.is c.load.ensures.ok }

pub returns-in-Save : goal.returns-in-Save
returns-in-Save g c =
    let old = c.args.self.now in
    let name = c.in-Save.name.now in
    let did = Did g.D.Disk.passes c.args.disk.now c.save.new.disk in
    record {
      ok = rw c.in-Save.is (OnOk-told _ _ c.save.result (Saves did false old name) (Obeys did old old (save name))
          (λ t h. (refl, h)) c.save.ensures.ok);
    }

pub returns-in-SaveOver : goal.returns-in-SaveOver
returns-in-SaveOver g c =
    let old = c.args.self.now in
    let name = c.in-SaveOver.name.now in
    let did = Did g.D.Disk.passes c.args.disk.now c.save-in-SaveOver.new.disk in
    record {
      ok = rw c.in-SaveOver.is (OnOk-told _ _ c.save-in-SaveOver.result (Saves did true old name) (Obeys did old old (save_over name))
          (λ t h. (refl, h)) c.save-in-SaveOver.ensures.ok);
    }

pub returns-in-Pcap : goal.returns-in-Pcap
returns-in-Pcap g c =
    let old = c.args.self.now in
    let name = c.in-Pcap.name.now in
    let did = Did g.D.Disk.passes c.args.disk.now c.write_capture.new.disk in
    record {
      ok = rw c.in-Pcap.is (OnOk-told _ _ c.write_capture.result (SavesFrames did false old name) (Obeys did old old (pcap name))
          (λ t h. (refl, h)) c.write_capture.ensures.ok);
    }

pub returns-in-PcapOver : goal.returns-in-PcapOver
returns-in-PcapOver g c =
    let old = c.args.self.now in
    let name = c.in-PcapOver.name.now in
    let did = Did g.D.Disk.passes c.args.disk.now c.write_capture-in-PcapOver.new.disk in
    record {
      ok = rw c.in-PcapOver.is (OnOk-told _ _ c.write_capture-in-PcapOver.result (SavesFrames did true old name) (Obeys did old old (pcap_over name))
          (λ t h. (refl, h)) c.write_capture-in-PcapOver.ensures.ok);
    }

pub returns-in-Show : goal.returns-in-Show
returns-in-Show g c = record { ok = rw c.in-Show.is (shown (Did g.D.Disk.passes c.args.disk.now c.args.disk.now) c.args.self.now c.in-Show.shown _ _ c.show.result refl c.show.ensures.ok) }

pub returns-in-Mark : goal.returns-in-Mark
returns-in-Mark g c = record { ok = rw c.in-Mark.is (alone (Did g.D.Disk.passes c.args.disk.now c.args.disk.now) c.args.self.now c.mark.new.self (mark c.in-Mark.name.now) _ _ c.mark.result refl (λ t h. h) c.mark.ensures.ok) }
