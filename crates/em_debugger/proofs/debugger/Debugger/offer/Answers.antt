use Rattle.std.proofs.Common.{◌≡◌, ◌∙◌, length, refl}
use Rattle.em_debugger.specs.Offers.{OffersFrames, TellsOffer}
use Rattle.em_debugger.proofs.TextLaws.{OnOk-told}
use Rattle.em_debugger.proofs.debugger.Debugger.offer.Goals as goal

pub returns : goal.returns
returns g c =
    let old = c.args.self.now in
    let a = c.arrivals_of-lines.result in
    let new = record old { offered = a.lines } in
    let count : c.len-count.result ≡ length a.lines.items = c.len-count.ensures ∙ a.lines.ok.0 in
    record {
      ok = OnOk-told _ _ c.write_offer.result (TellsOffer (length a.lines.items) a.cut a.padded a.error)
          (OffersFrames old new c.args.file.now)
          (λ t h. record { arrivals = a; are = c.arrivals_of-lines.ensures; offers = refl; told = h })
          (rw count at c.write_offer.ensures.ok);
    }
