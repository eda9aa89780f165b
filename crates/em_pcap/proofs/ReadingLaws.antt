-- Going on in a capture.
use Rattle.std.proofs.Common.{◌≡◌, ℕ, zero, suc, ◌+◌, ◌-◌, ◌<◌, ◌≤◌, List, [], ◌∷◌, ◌++◌, length, drop, refl, sym, ap}
use Rattle.std.proofs.Common.{◌∙◌, arith}
use Rattle.em_pcap.specs.declared.form.Form.{Form}
use Rattle.em_pcap.specs.declared.form.Interface.{Interface}
use Rattle.em_pcap.specs.declared.form.Step.{Step}
use Rattle.em_pcap.specs.declared.form.Step.TheVariants.{Ends, Stops, Gives, Opens, Adds, Skips}
use Rattle.em_pcap.specs.declared.form.Form.TheVariants.{Done}
use Rattle.em_pcap.specs.Step.{IsWithin}
use Rattle.em_pcap.specs.Reading.{Reading, nothing, stopped, and_then, found_in, step_of, reading_from}

-- nothing is read any more
pub done : (interfaces : List Interface) (inside offset : ℕ) (octets : List ℕ)
    → reading_from Done interfaces inside offset octets ≡ nothing
unfolding step_of
done interfaces (suc inside) offset [] = refl
done interfaces (suc inside) offset (octet ∷ octets) = done interfaces inside (offset + 1) octets
done interfaces zero offset [] = refl
done interfaces zero offset (octet ∷ octets) = refl

-- the octets of a step before are passed, where there are so many
pub passes : (form : Form) (interfaces : List Interface) (inside offset : ℕ) (octets : List ℕ) → inside ≤ length octets
    → reading_from form interfaces inside offset octets
    ≡ reading_from form interfaces 0 (offset + inside) (drop inside octets)
passes form interfaces zero offset octets h = ap (λ n. reading_from form interfaces 0 n octets) (omega arith)
passes form interfaces (suc inside) offset [] h = absurd (omega arith)
passes form interfaces (suc inside) offset (octet ∷ octets) h =
    passes form interfaces inside (offset + 1) octets (omega arith)
    ∙ ap (λ n. reading_from form interfaces 0 n (drop inside octets)) (omega arith)

-- what a step gives with all that is behind it, where it has no more octets than there are
abbrev pub after : Form → List Interface → ℕ → List ℕ → Step → Reading
after form interfaces offset octets Ends = nothing
after form interfaces offset octets (Stops kind) = stopped kind offset
after form interfaces offset octets (Gives found) =
    and_then (found_in found octets) (reading_from form interfaces 0 (offset + found.len) (drop found.len octets))
after form interfaces offset octets (Opens len form') = reading_from form' [] 0 (offset + len) (drop len octets)
after form interfaces offset octets (Adds len interface) =
    reading_from form (interfaces ++ interface ∷ []) 0 (offset + len) (drop len octets)
after form interfaces offset octets (Skips len) = reading_from form interfaces 0 (offset + len) (drop len octets)

-- so many octets are passed
behind : (form : Form) (interfaces : List Interface) (offset octet : ℕ) (octets : List ℕ) (len : ℕ) → 0 < len
    → len ≤ length (octet ∷ octets)
    → reading_from form interfaces (len - 1) (offset + 1) octets
    ≡ reading_from form interfaces 0 (offset + len) (drop len (octet ∷ octets))
behind form interfaces offset octet octets zero some most = absurd (omega arith)
behind form interfaces offset octet octets (suc len) some most =
    let less : suc len - 1 ≡ len = omega arith in
    ap (λ n. reading_from form interfaces n (offset + 1) octets) less
    ∙ passes form interfaces len (offset + 1) octets (omega arith)
    ∙ ap (λ n. reading_from form interfaces 0 n (drop len octets)) (omega arith)

-- what a file gives from an offset on is what stands there, and what the file gives behind
stands : (form : Form) (interfaces : List Interface) (offset : ℕ) (octets : List ℕ) (step : Step)
    → step_of form interfaces octets ≡ step → IsWithin (length octets) step
    → reading_from form interfaces 0 offset octets ≡ after form interfaces offset octets step
stands form interfaces offset [] Ends e h = rw e refl
stands form interfaces offset [] (Stops kind) e h = rw e refl
stands form interfaces offset [] (Gives found) e h = absurd (omega (arith, h.0.0, h.0.1))
stands form interfaces offset [] (Opens len form') e h = absurd (omega (arith, h.0, h.1))
stands form interfaces offset [] (Adds len interface) e h = absurd (omega (arith, h.0, h.1))
stands form interfaces offset [] (Skips len) e h = absurd (omega (arith, h.0, h.1))
stands form interfaces offset (octet ∷ octets) Ends e h = rw e refl
stands form interfaces offset (octet ∷ octets) (Stops kind) e h = rw e refl
stands form interfaces offset (octet ∷ octets) (Gives found) e h =
    rw e (ap (and_then (found_in found (octet ∷ octets)))
    (behind form interfaces offset octet octets found.len h.0.0 h.0.1))
stands form interfaces offset (octet ∷ octets) (Opens len form') e h =
    rw e (behind form' [] offset octet octets len h.0 h.1)
stands form interfaces offset (octet ∷ octets) (Adds len interface) e h =
    rw e (behind form (interfaces ++ interface ∷ []) offset octet octets len h.0 h.1)
stands form interfaces offset (octet ∷ octets) (Skips len) e h =
    rw e (behind form interfaces offset octet octets len h.0 h.1)

pub stands_there : (form : Form) (interfaces : List Interface) (offset : ℕ) (octets : List ℕ) (step : Step)
    → step ≡ step_of form interfaces octets → IsWithin (length octets) step
    → reading_from form interfaces 0 offset octets ≡ after form interfaces offset octets step
stands_there form interfaces offset octets step e h = stands form interfaces offset octets step (sym e) h
