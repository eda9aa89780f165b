use Rattle.std.proofs.Common.{◌≡◌, ◌++◌, Some, None, sym, ap, ◌∙◌}
use Rattle.std.specs.Prelude.{codes}
use Rattle.em_text.specs.Writer.{value_digits}
use Rattle.em_text.proofs.WritingLemmas.{Writes-more}
use Rattle.em_regs.specs.declared.profile.Profile.TheVariants.{Adapter}
use Rattle.em_regs.specs.Table.{reg_of}
use Rattle.em_names.specs.Bits.{register_text}
use Rattle.em_inspect.specs.AddressText.{address_text}
use Rattle.em_noted.specs.Note.{access_text}
use Rattle.em_noted.proofs.note.write_access.Goals as goal

pub returns-in-Some : goal.returns-in-Some
returns-in-Some g c =
    let is : reg_of Adapter c.args.at ≡ Some c.in-Some.reg = sym c.register_at.ensures ∙ c.in-Some.is in
    record {
      writes = Writes-more _ _ _ _ c.args.word.now (register_text c.in-Some.reg c.args.value) _
          c.in_ok-write_whole.ensures.writes c.write_register.ensures.writes
          (ap (λ found. c.args.word.now ++ access_text found c.args.at c.args.value) is);
    }

pub returns-in-None : goal.returns-in-None
returns-in-None g c =
    let is : reg_of Adapter c.args.at ≡ None = sym c.register_at.ensures ∙ c.in-None.is in
    record {
      writes = Writes-more _ _ _ _ c.args.word.now
          (address_text c.args.at ++ (codes " " ++ value_digits c.args.value)) _ c.in_ok-write_whole.ensures.writes
          c.write_text.ensures.writes (ap (λ found. c.args.word.now ++ access_text found c.args.at c.args.value) is);
    }
