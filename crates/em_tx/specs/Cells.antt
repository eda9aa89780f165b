-- What the transmit side keeps, with the guest's memory, and what of it is shown.
use Rattle.std.specs.Prelude.{◌≡◌, ℕ, Bool, true, false, IsTrue, List, [], refl}
use Rattle.std.specs.Coded.{Coded, code_by, coded×, coded_list, coded_ℕ, coded_bool}
use Rattle.em_mem.specs.Memory as mem

-- the gathered octets, and whether there is room for the longest frame
pub record Gathered : Type 0 where
  pub octets : List ℕ
  pub room : Bool

-- they are stored as the pair of their fields
abbrev pub gathered_code : Coded Gathered
gathered_code = code_by (List ℕ × Bool) (coded× (coded_list coded_ℕ) coded_bool)
    (λ g. (g.octets, g.room)) (λ p. record { octets = p.0; room = p.1 }) (λ _. refl)

-- nothing gathered, and no room taken
abbrev pub none_gathered : Gathered
none_gathered = record { octets = []; room = false }

-- octets, with the room that there is for them
abbrev pub with_room : List ℕ → Gathered
with_room octets = record { octets = octets; room = true }

-- h is g, but that h may have room where g has none
pub record MoreRoom (g h : Gathered) : Type 0 where
  pub octets : h.octets ≡ g.octets
  pub room : IsTrue g.room → IsTrue h.room

-- what is gathered, the frames on the wire, and the octets and made pages of memory
pub record Cells : Type 0 where
  pub gathered : Gathered
  pub wire : List (List ℕ)
  pub memory : mem.Cells

abbrev pub cells : Gathered → List (List ℕ) → mem.Cells → Cells
cells g w m = record { gathered = g; wire = w; memory = m }

-- all but which pages are made, and whether there is room for octets
pub record Shown : Type 0 where
  pub gathered : List ℕ
  pub wire : List (List ℕ)
  pub memory : List ℕ

abbrev pub shows : Cells → Shown
shows c = record { gathered = c.gathered.octets; wire = c.wire; memory = c.memory.octets }

-- d is c, but that d may have more pages made, and room for gathered octets
pub record MorePages (c d : Cells) : Type 0 where
  pub gathered : MoreRoom c.gathered d.gathered
  pub wire : d.wire ≡ c.wire
  pub memory : mem.MorePages c.memory d.memory
