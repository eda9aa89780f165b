use Rattle.std.proofs.Common.{List, ℕ, ◌≡◌, ◌∙◌, ◌++◌, ap, length, refl, subst, sym}
use Rattle.std.proofs.lemmas.List.{take_at, drop_at}
use Rattle.em_text.specs.Writer.{Writes, hex_text}
use Rattle.em_text.proofs.WritingLemmas.{hex_text-cut}
use Rattle.em_pcap.specs.Frame.{header_octets}
use Rattle.em_frames.proofs.arrivals.write_frame.Goals as goal

pub returns-in-Some : goal.returns-in-Some
returns-in-Some g c =
    let contents = g.W.Write.contents in
    let header = c.as_slice.result.now in
    let octets = c.args.packet.now.octets.now in
    let n = length header in
    let cut = sym (hex_text-cut (header ++ octets) header octets n (sym (take_at header octets n refl))
    (sym (drop_at header octets n refl))) in
    let own : header_octets c.args.packet.now.header ≡ header =
    ap header_octets c.in-Some.is ∙ sym c.as_slice.ensures in
    let text = cut ∙ ap (λ (h : List ℕ). hex_text (h ++ octets)) (sym own) in
    let writes =
    λ (text : List ℕ). Writes (contents c.args.writer.now) (contents c.write_both.new.writer) c.write_both.result text in
    record { writes = subst writes text c.write_both.ensures.writes }
