-- The words of the PHY, and MDIC, by which software reads and writes them (manual, register descriptions): DATA 15:0,
-- REGADD 20:16, PHYADD 25:21, OP 27:26 (01 writes, 10 reads), R 28, I 29, E 30. This project's profile: a command is done
-- at once, and another OP does nothing.
use Rattle.std.specs.Prelude.{Bool, ◌==◌, ◌||◌, ◌&&◌, if◌then◌else◌, ℕ, ◌+◌, ◌*◌, ◌/◌, ◌%◌, ◌^◌, List, [], ◌∷◌, bit_and, bit_or, slice_index, set}
use Rattle.std.specs.Prelude.{◌<◌, length}

pub record State : Type 0 where
  -- MDIC as it is read
  pub mdic : ℕ
  -- the 32 words, those that follow the link as they are without one
  pub words : List ℕ

-- at power on, without a link: words 0 to 15 are those of IEEE 802.3, clause 22, and the others the part's own. The values
-- are those that QEMU's e1000 has, and Linux reads
abbrev pub start : State
start = record {
  mdic = 0;
  words = 0x1140 ∷ 0x7949 ∷ 0x0141 ∷ 0x0C20 ∷ 0x0DE1 ∷ 0x01E0 ∷ 0 ∷ 0 ∷ 0 ∷ 0x0E00 ∷ 0x3C00 ∷ 0 ∷ 0 ∷ 0 ∷ 0 ∷ 0
      ∷ 0x0360 ∷ 0xA800 ∷ 0 ∷ 0 ∷ 0x0D60 ∷ 0 ∷ 0 ∷ 0 ∷ 0 ∷ 0 ∷ 0 ∷ 0 ∷ 0 ∷ 0 ∷ 0 ∷ 0 ∷ [];
}

-- ---- a word of the PHY
-- status, the two identifiers, and the part's own status are read only
abbrev pub is_read_only : ℕ → Bool
is_read_only k = k == 1 || k == 2 || k == 3 || k == 17

-- the bits of a word that are 1 while there is a link: link status and negotiation complete in 1, link in 17
abbrev pub link_bits : ℕ → ℕ
link_bits k = if k == 1 then 0x0024 else if k == 17 then 0x0400 else 0

-- a word as it is read, by what it is without a link
abbrev pub with_link : Bool → ℕ → ℕ → ℕ
with_link link k word = if link then bit_or word (link_bits k) else word

abbrev pub read_word : List ℕ → Bool → ℕ → ℕ
read_word words link k = with_link link k (slice_index words k)

-- what is stored of a word: in control (0) reset (15) and restart of negotiation (9) clear themselves, and no other word
-- changes with them (this project's profile)
abbrev pub kept_word : ℕ → ℕ → ℕ
kept_word k v = if k == 0 then bit_and v 0x7DFF else v

abbrev pub put_word : List ℕ → ℕ → ℕ → List ℕ
put_word words k v = if is_read_only k then words else set words k (kept_word k v)

-- ---- MDIC
abbrev pub data_of : ℕ → ℕ
data_of v = v % 2 ^ 16

abbrev pub regadd : ℕ → ℕ
regadd v = v / 2 ^ 16 % 32

abbrev pub phyadd : ℕ → ℕ
phyadd v = v / 2 ^ 21 % 32

abbrev pub op : ℕ → ℕ
op v = v / 2 ^ 26 % 4

-- what is kept of a write: DATA, REGADD, PHYADD, OP and I
abbrev pub kept : ℕ → ℕ
kept v = bit_and v 0x2FFF_FFFF

-- a command asks for an interrupt: I
abbrev pub asks_for_interrupt : ℕ → Bool
asks_for_interrupt v = v / 2 ^ 29 % 2 == 1

-- MDIC after a write: R at once, of PHY 1 the word that was read; of another one E
abbrev pub answer : State → Bool → ℕ → ℕ
answer s link v =
    if phyadd v == 1 then
    (if op v == 2 then kept v / 2 ^ 16 * 2 ^ 16 + read_word s.words link (regadd v) else kept v) + 0x1000_0000
    else kept v + 0x5000_0000

-- the words after a write of MDIC
abbrev pub stored : List ℕ → ℕ → List ℕ
stored words v = if phyadd v == 1 && op v == 1 then put_word words (regadd v) (data_of v) else words

abbrev pub after_write : State → Bool → ℕ → State
after_write s link v = record { mdic = answer s link v; words = stored s.words v }

-- ---- what takes it back: MDIC, and the word that it named
pub record Old : Type 0 where
  pub mdic : ℕ
  pub reg : ℕ
  pub old : ℕ

-- it names one of the words
abbrev pub Fits : State → Old → Type 0
Fits s u = u.reg < length s.words

abbrev pub undone : State → Old → State
undone s u = record { mdic = u.mdic; words = set s.words u.reg u.old }

-- what a word was, where it is so much now
abbrev pub word_before : Old → ℕ → ℕ → ℕ
word_before u k now = if k == u.reg then u.old else now
