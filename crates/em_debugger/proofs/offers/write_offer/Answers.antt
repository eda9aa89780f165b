use Rattle.std.proofs.Common.{refl}
use Rattle.em_debugger.specs.Offers.{EndsOffer, TellsOffer, offered_text}
use Rattle.em_debugger.proofs.TextLaws.{OnOk-behind}
use Rattle.em_debugger.proofs.offers.write_offer.Goals as goal

pub returns : goal.returns
returns g c = record {
  ok = OnOk-behind _ _ _ c.write_end.result (offered_text c.args.count c.args.cut c.args.padded) (EndsOffer c.args.error)
      (TellsOffer c.args.count c.args.cut c.args.padded c.args.error) c.in_ok-write_offered.ensures.writes
      (λ t h. record { end = t; ends = h; told = refl }) c.write_end.ensures.ok;
}
