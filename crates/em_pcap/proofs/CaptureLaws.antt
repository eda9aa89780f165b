-- Going on in a capture as far as it is read.
use Rattle.std.proofs.Common.{Bool, true, false, zero, suc, [], ◌∷◌, ◌<◌}
use Rattle.std.proofs.Common.{◌≡◌, ℕ, ◌+◌, ◌-◌, ◌≤◌, List, length, take, drop, refl, sym, ap, subst, ◌∙◌, arith}
use Rattle.std.proofs.lemmas.List.{drop-drop, take_rest, length-drop}
use Rattle.em_pcap.specs.declared.capture.Capture.{Capture}
use Rattle.em_pcap.specs.declared.form.Form.{Form}
use Rattle.em_pcap.specs.declared.form.Form.TheVariants.{Start, Classic, Section, Done}
use Rattle.em_pcap.specs.declared.form.Interface.{Interface}
use Rattle.em_pcap.specs.declared.form.Step.{Step}
use Rattle.em_pcap.specs.declared.form.Step.TheVariants.{Ends, Stops, Gives, Opens, Adds, Skips}
use Rattle.em_pcap.specs.Step.{IsWithin, IsPart}
use Rattle.em_pcap.specs.Reading.{step_of, reading_from}
use Rattle.em_pcap.specs.Capture.{left_of, adds_from, adds_next, calls_in}
use Rattle.em_pcap.proofs.ReadingLaws.{after, stands_there}

-- what is left is what stands there, and what is left behind it
pub left_here : (s : Capture) (interfaces : List Interface) (step : Step) → interfaces ≡ s.interfaces.items
    → step ≡ step_of s.form interfaces (take (length s.file.now - s.offset) (drop s.offset s.file.now))
    → IsWithin (length (take (length s.file.now - s.offset) (drop s.offset s.file.now))) step
    → left_of s ≡ after s.form s.interfaces.items s.offset (drop s.offset s.file.now) step
left_here s interfaces step same e h =
    let rest = take_rest s.file.now s.offset in
    stands_there s.form s.interfaces.items s.offset (drop s.offset s.file.now) step
    (e ∙ ap (λ (r : List ℕ). step_of s.form interfaces r) rest
    ∙ ap (λ (i : List Interface). step_of s.form i (drop s.offset s.file.now)) same)
    (subst (λ (r : List ℕ). IsWithin (length r) step) rest h)

-- so much further on
pub moved : (form : Form) (before interfaces : List Interface) (offset len : ℕ) (file : List ℕ) → before ≡ interfaces
    → reading_from form before 0 (offset + len) (drop (offset + len) file)
    ≡ reading_from form interfaces 0 (offset + len) (drop len (drop offset file))
moved form before interfaces offset len file e =
    ap (λ (i : List Interface). reading_from form i 0 (offset + len) (drop (offset + len) file)) e
    ∙ ap (reading_from form interfaces 0 (offset + len)) (sym (drop-drop len offset file))

-- the octets of a packet in the rest of a file
pub packet_in : (at captured offset : ℕ) (file : List ℕ)
    → take (at + captured - at) (drop at (take (length file - offset) (drop offset file)))
    ≡ take captured (drop at (drop offset file))
packet_in at captured offset file =
    let len : at + captured - at ≡ captured = omega arith in
    ap (λ (n : ℕ). take n (drop at (take (length file - offset) (drop offset file)))) len
    ∙ ap (λ (r : List ℕ). take captured (drop at r)) (take_rest file offset)

-- ---- where memory is taken

-- the octets of a step before are passed, where there are so many
adds_passes : (form : Form) (interfaces : List Interface) (inside : ℕ) (octets : List ℕ) → inside ≤ length octets
    → adds_from form interfaces inside octets ≡ adds_from form interfaces 0 (drop inside octets)
adds_passes form interfaces zero octets h = refl
adds_passes form interfaces (suc inside) [] h = absurd (omega arith)
adds_passes form interfaces (suc inside) (octet ∷ octets) h = adds_passes form interfaces inside octets (omega arith)

adds_behind : (form : Form) (interfaces : List Interface) (octet : ℕ) (octets : List ℕ) (len : ℕ) → 0 < len
    → len ≤ length (octet ∷ octets)
    → adds_from form interfaces (len - 1) octets ≡ adds_from form interfaces 0 (drop len (octet ∷ octets))
adds_behind form interfaces octet octets zero some most = absurd (omega arith)
adds_behind form interfaces octet octets (suc len) some most =
    let less : suc len - 1 ≡ len = omega arith in
    ap (λ n. adds_from form interfaces n octets) less ∙ adds_passes form interfaces len octets (omega arith)

-- what stands there, and what comes behind it
abbrev pub adds_after : Form → List Interface → List ℕ → Step → Bool
adds_after form interfaces octets Ends = false
adds_after form interfaces octets (Stops kind) = false
adds_after form interfaces octets (Gives found) = false
adds_after form interfaces octets (Opens len form') = adds_from form' [] 0 (drop len octets)
adds_after form interfaces octets (Adds len interface) = true
adds_after form interfaces octets (Skips len) = adds_from form interfaces 0 (drop len octets)

adds_stand : (form : Form) (interfaces : List Interface) (octets : List ℕ) (step : Step)
    → step_of form interfaces octets ≡ step → IsWithin (length octets) step
    → adds_from form interfaces 0 octets ≡ adds_after form interfaces octets step
adds_stand form interfaces [] Ends e h = rw e refl
adds_stand form interfaces [] (Stops kind) e h = rw e refl
adds_stand form interfaces [] (Gives found) e h = rw e refl
adds_stand form interfaces [] (Opens len form') e h = absurd (omega (arith, h.0, h.1))
adds_stand form interfaces [] (Adds len interface) e h = rw e refl
adds_stand form interfaces [] (Skips len) e h = absurd (omega (arith, h.0, h.1))
adds_stand form interfaces (octet ∷ octets) Ends e h = rw e refl
adds_stand form interfaces (octet ∷ octets) (Stops kind) e h = rw e refl
adds_stand form interfaces (octet ∷ octets) (Gives found) e h = rw e refl
adds_stand form interfaces (octet ∷ octets) (Opens len form') e h =
    rw e (adds_behind form' [] octet octets len h.0 h.1)
adds_stand form interfaces (octet ∷ octets) (Adds len interface) e h = rw e refl
adds_stand form interfaces (octet ∷ octets) (Skips len) e h =
    rw e (adds_behind form interfaces octet octets len h.0 h.1)

-- where memory is taken next, by what stands there
pub adds_here : (s : Capture) (interfaces : List Interface) (step : Step) → interfaces ≡ s.interfaces.items
    → step ≡ step_of s.form interfaces (take (length s.file.now - s.offset) (drop s.offset s.file.now))
    → IsWithin (length (take (length s.file.now - s.offset) (drop s.offset s.file.now))) step
    → adds_next s ≡ adds_after s.form s.interfaces.items (drop s.offset s.file.now) step
adds_here s interfaces step same e h =
    let rest = take_rest s.file.now s.offset in
    adds_stand s.form s.interfaces.items (drop s.offset s.file.now) step
    (sym (e ∙ ap (λ (r : List ℕ). step_of s.form interfaces r) rest
    ∙ ap (λ (i : List Interface). step_of s.form i (drop s.offset s.file.now)) same))
    (subst (λ (r : List ℕ). IsWithin (length r) step) rest h)

-- so much further on
pub adds_moved : (form : Form) (before interfaces : List Interface) (offset len : ℕ) (file : List ℕ)
    → before ≡ interfaces
    → adds_from form before 0 (drop (offset + len) file) ≡ adds_from form interfaces 0 (drop len (drop offset file))
adds_moved form before interfaces offset len file e =
    ap (λ (i : List Interface). adds_from form i 0 (drop (offset + len) file)) e
    ∙ ap (adds_from form interfaces 0) (sym (drop-drop len offset file))

-- ---- how many calls can still give something

-- at most one for each octet, and one more
pub calls_most : (form : Form) (octets : ℕ) → calls_in form octets ≤ octets + 1
calls_most (Start own) octets = omega arith
calls_most (Classic header) octets = omega arith
calls_most (Section order own) octets = omega arith
calls_most Done octets = omega arith

-- so many, where something stands there
pub calls_there : (form : Form) (interfaces : List Interface) (octets : List ℕ) (step : Step) (n : ℕ)
    → step ≡ step_of form interfaces octets → (step ≡ Ends → ⊥) → calls_in form n ≡ n + 1
unfolding step_of
calls_there (Start own) interfaces octets step n e h = refl
calls_there (Classic header) interfaces octets step n e h = refl
calls_there (Section order own) interfaces octets step n e h = refl
calls_there Done interfaces octets step n e h = absurd (h e)

-- fewer calls can still give something so much further on
pub calls_fewer : (form : Form) (offset len : ℕ) (file : List ℕ) → offset ≤ length file
    → IsPart (length (take (length file - offset) (drop offset file))) len
    → calls_in form (length file - (offset + len)) < length file - offset + 1
calls_fewer form offset len file within part =
    let rest : length (take (length file - offset) (drop offset file)) ≡ length file - offset =
    ap length (take_rest file offset) ∙ length-drop offset file in
    omega (arith, calls_most form (length file - (offset + len)), rest, part.0, part.1)
