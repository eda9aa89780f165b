-- Parts of a start, one after the other.
use Rattle.std.proofs.Common.{◌≡◌, ◌∙◌, ℕ, suc, ◌+◌, ◌-◌, ◌%◌, ◌==◌, ◌<◌, ◌≤◌, if◌then◌else◌}
use Rattle.std.proofs.Common.{Bool, true, false, List, [], ◌∷◌, ◌++◌, length, take, sum, Some, None}
use Rattle.std.proofs.Common.{refl, sym, ap, subst, arith, eq-eqb}
use Rattle.std.proofs.lemmas.Bool.{ne_eqb}
use Rattle.std.proofs.lemmas.List.{take_more_set, take_all}
use Rattle.std.proofs.Math.ListN.{set}
use Rattle.em_eeprom.specs.Eeprom.{IsSummed}
use Rattle.em_regs.specs.Table.{offset_of}
use Rattle.em_regs.specs.declared.reg.Reg.{Reg}
use Rattle.em_regs.specs.declared.reg.Reg.TheVariants.{Ctrl}
use Rattle.em_step.specs.Event.{writes}
use Rattle.em_step.specs.declared.refusal.Refusal.{Refusal}
use Rattle.em_step.specs.declared.refusal.Refusal.TheVariants as refusal
use Rattle.em_driver.specs.World.{World, IsRefused}
use Rattle.em_driver.specs.Course.{done, write, Follows, Comes}
use Rattle.em_driver.specs.Layout.{IsGoodLayout, IsGoodSide, IsPlaced, IsPlacedSide, rx, tx}
use Rattle.em_driver.specs.Start.{Start, Part, each_from, eeprom_word, words_from, summed, eeprom, memory, device_reset}
use Rattle.em_driver.specs.Start.{global_reset, receive_address, multicast_table, receive_ring, transmit_ring}
use Rattle.em_driver.specs.Start.{after_reset, start, start_events}
use Rattle.em_driver.specs.Start.{Performs, Gives, Stops}
use Rattle.em_driver.specs.declared.layout.Layout.{Layout}
use Rattle.em_driver.specs.declared.layout.Side.{Side}
use Rattle.em_driver.specs.declared.outcome.Cause.{Cause}
use Rattle.em_driver.specs.declared.outcome.Cause.TheVariants as cause
use Rattle.em_driver.proofs.course.CourseSteps.{ends_with, reset_stops, comes_on, comes_none, comes_both, comes_as}

-- ---- one part and then another

-- a part that stopped behind a part that was performed
pub stops_behind : {A : Type 0} (w m v : World) (first : Part) (second : A → Start) (n before mid after : ℕ)
    (why : Cause) → Performs w first n m → mid ≡ before + n → Stops m second mid why v after
    → Stops w (λ more. first (second more)) before why v after
stops_behind w m v first second n before mid after why performed counted stopped = record {
  events = n + stopped.events;
  counted = omega (arith, counted, stopped.counted);
  follows = λ more.
      comes_on w m v (first (second more)) (second more) n stopped.events (n + stopped.events) (Some why)
      (performed (second more)) refl (stopped.follows more);
}

-- a part that stopped, of a longer part
pub stops_before : {A B : Type 0} (w v : World) (first : A → Start) (second : B → A) (before after : ℕ) (why : Cause)
    → Stops w first before why v after → Stops w (λ more. first (second more)) before why v after
stops_before w v first second before after why stopped = record {
  events = stopped.events;
  counted = stopped.counted;
  follows = λ more. stopped.follows (second more);
}

-- a course that has come to a part that stopped
pub comes_stops : {A : Type 0} (w m v : World) (course : Start) (part : A → Start) (more : A) (n mid after : ℕ)
    (why : Cause) → Comes w course n m (part more) → mid ≡ n → Stops m part mid why v after
    → Follows w course after (Some why) v
comes_stops w m v course part more n mid after why comes counted stopped =
    comes_on w m v course (part more) n stopped.events after (Some why) comes
    (omega (arith, counted, stopped.counted)) (stopped.follows more)

-- ---- a part for each number

each_step : (i n : ℕ) (part : ℕ → Part) (more : Start)
    → each_from i (suc n) part more ≡ part i (each_from (i + 1) n part more)
unfolding each_from
each_step i n part more = refl

each_end : (i : ℕ) (part : ℕ → Part) (more : Start) → each_from i 0 part more ≡ more
unfolding each_from
each_end i part more = refl

one_less : (count i : ℕ) → i < count → count - i ≡ suc (count - (i + 1))
one_less count i h = omega arith

-- the part for the next number, and those behind it
each_next : (i count : ℕ) (part : ℕ → Part) (more : Start) → i < count
    → each_from i (count - i) part more ≡ part i (each_from (i + 1) (count - (i + 1)) part more)
each_next i count part more h =
    ap (λ n. each_from i n part more) (one_less count i h) ∙ each_step i (count - (i + 1)) part more

-- no part yet
pub each_none : (w : World) (part : ℕ → Part) (count : ℕ) (more : Start)
    → Comes w (each_from 0 count part more) 0 w (each_from 0 (count - 0) part more)
each_none w part count more =
    comes_as w w (each_from 0 count part more) (each_from 0 count part more) (each_from 0 (count - 0) part more) 0 0
    (comes_none w (each_from 0 count part more)) refl
    (let same : count - 0 ≡ count = omega arith in ap (λ n. each_from 0 n part more) same)

-- another part was performed
pub each_more : (w m v : World) (course : Start) (part : ℕ → Part) (count i k : ℕ) (more : Start) → i < count
    → Comes w course k m (each_from i (count - i) part more) → Performs m (part i) 1 v
    → Comes w course (k + 1) v (each_from (i + 1) (count - (i + 1)) part more)
each_more w m v course part count i k more h comes performed =
    let others : Start = each_from (i + 1) (count - (i + 1)) part more in
    comes_both w m v course (each_from i (count - i) part more) others k 1 (k + 1) comes refl
    (subst (λ x. Comes m x 1 v others) (sym (each_next i count part more h)) (performed others))

-- a part stopped
pub each_stops : {w m v : World} (course : Part) (part : ℕ → Part) (count i k : ℕ) {before mid after : ℕ} {why : Cause}
    → i < count → ((more : Start) → Comes w (course more) k m (each_from i (count - i) part more))
    → mid ≡ before + k → Stops m (part i) mid why v after → Stops w course before why v after
each_stops {w = w} {m = m} {v = v} course part count i k {why = why} h comes counted stopped = record {
  events = k + stopped.events;
  counted = omega (arith, counted, stopped.counted);
  follows = λ more.
      let others : Start = each_from (i + 1) (count - (i + 1)) part more in
      comes_on w m v (course more) (each_from i (count - i) part more) k stopped.events (k + stopped.events) (Some why)
      (comes more) refl
      (subst (λ x. Follows m x stopped.events (Some why) v) (sym (each_next i count part more h))
      (stopped.follows others));
}

none_left : (count i : ℕ) → count ≤ i → count - i ≡ 0
none_left count i h = omega arith

-- all were performed
pub each_all : (w v : World) (course : Start) (part : ℕ → Part) (count i : ℕ) {k j : ℕ} (more : Start) → count ≤ i
    → Comes w course k v (each_from i (count - i) part more) → j ≡ k → Comes w course j v more
each_all w v course part count i {k = k} {j = j} more h comes e =
    comes_as w v course (each_from i (count - i) part more) more k j comes e
    (sym (ap (λ n. each_from i n part more) (none_left count i h) ∙ each_end i part more))

-- a write of a register, in other words
pub write_as : (w v : World) (reg : Reg) {value u : ℕ} → Performs w (write reg value) 1 v → value ≡ u
    → Performs w (write reg u) 1 v
write_as w v reg {value = value} performed e = subst (λ x. Performs w (write reg x) 1 v) e performed

-- a reset that is refused
pub reset_refused : {w v : World} (value : ℕ) {before : ℕ} (lack : Refusal)
    → IsRefused w (writes (offset_of Ctrl) value) lack v → value ≡ 0x0400_0000 → lack ≡ refusal.Memory
    → Stops w device_reset before cause.Memory v before
reset_refused {w = w} {v = v} value lack refused e f = record {
  events = 0;
  counted = omega arith;
  follows = λ more.
      reset_stops w v (Some cause.Memory) more
      (subst (λ x. IsRefused w (writes (offset_of Ctrl) x) refusal.Memory v) e
      (subst (λ x. IsRefused w (writes (offset_of Ctrl) value) x v) f refused));
}

-- a memory write, in other words
pub memory_as : (w v : World) {addr a : ℕ} {octets o : List ℕ} → Performs w (memory addr octets) 1 v → a ≡ addr
    → o ≡ octets → Performs w (memory a o) 1 v
memory_as w v {addr = addr} {o = o} performed e f =
    subst (λ x. Performs w (memory x o) 1 v) (sym e) (subst (λ x. Performs w (memory addr x) 1 v) (sym f) performed)

pub memory_stops_as : {w v : World} {addr a : ℕ} {octets o : List ℕ} {before after : ℕ} {why : Cause}
    → Stops w (memory addr octets) before why v after → a ≡ addr → o ≡ octets → Stops w (memory a o) before why v after
memory_stops_as {w = w} {v = v} {addr = addr} {o = o} {before = before} {after = after} {why = why} stopped e f =
    subst (λ x. Stops w (memory x o) before why v after) (sym e)
    (subst (λ x. Stops w (memory addr x) before why v after) (sym f) stopped)

-- ---- the EEPROM

pub chosen : {A : Type 0} (b : Bool) (x y : A) → b ≡ true → x ≡ (if b then x else y)
chosen b x y e = sym (ap (λ t. if t then x else y) e)

pub not_chosen : {A : Type 0} (b : Bool) (x y : A) → b ≡ false → y ≡ (if b then x else y)
not_chosen b x y e = sym (ap (λ t. if t then x else y) e)

words_step : (a n : ℕ) (words : List ℕ) (next : List ℕ → Start)
    → words_from a (suc n) words next ≡ eeprom_word a (λ word. words_from (a + 1) n (words ++ word ∷ []) next)
unfolding words_from
words_step a n words next = refl

words_end : (a : ℕ) (words : List ℕ) (next : List ℕ → Start) → words_from a 0 words next ≡ next words
unfolding words_from
words_end a words next = refl

words_next : (a count : ℕ) (words : List ℕ) (next : List ℕ → Start) → a < count
    → words_from a (count - a) words next
    ≡ eeprom_word a (λ word. words_from (a + 1) (count - (a + 1)) (words ++ word ∷ []) next)
words_next a count words next h =
    ap (λ n. words_from a n words next) (one_less count a h) ∙ words_step a (count - (a + 1)) words next

-- another word was read
pub words_more : (w m v : World) (course : Start) (count a place k : ℕ) {j : ℕ} (word : ℕ) (words : List ℕ)
    (next : List ℕ → Start) → a < count → a < length words → place ≡ a → j ≡ k + 2
    → Comes w course k m (words_from a (count - a) (take a words) next) → Gives m (eeprom_word a) 2 word v
    → Comes w course j v (words_from (a + 1) (count - (a + 1)) (take (a + 1) (set words place word)) next)
words_more w m v course count a place k {j = j} word words next h within e f comes gives =
    let others = λ (x : ℕ). words_from (a + 1) (count - (a + 1)) (take a words ++ x ∷ []) next in
    subst (λ x. Comes w course j v (words_from (a + 1) (count - (a + 1)) x next))
    (sym (ap (λ x. take (a + 1) (set words x word)) e ∙ take_more_set words a word within))
    (comes_both w m v course (words_from a (count - a) (take a words) next) (others word) k 2 j comes f
    (subst (λ x. Comes m x 2 v (others word)) (sym (words_next a count (take a words) next h)) (gives others)))

-- a word was not read
pub words_stop : {w m v : World} (course : (List ℕ → Start) → Start) (count a k : ℕ) {before mid after : ℕ} (words : List ℕ)
    (next : (List ℕ → Start) → List ℕ → Start) {why : Cause} → a < count
    → ((more : List ℕ → Start) → Comes w (course more) k m (words_from a (count - a) words (next more)))
    → mid ≡ before + k → Stops m (eeprom_word a) mid why v after → Stops w course before why v after
words_stop {w = w} {m = m} {v = v} course count a k {before = before} {after = after} words next {why = why} h comes counted stopped = record {
  events = k + stopped.events;
  counted = omega (arith, counted, stopped.counted);
  follows = λ more.
      let others = λ (x : ℕ). words_from (a + 1) (count - (a + 1)) (words ++ x ∷ []) (next more) in
      comes_on w m v (course more) (words_from a (count - a) words (next more)) k stopped.events (k + stopped.events)
      (Some why) (comes more) refl
      (subst (λ x. Follows m x stopped.events (Some why) v) (sym (words_next a count words (next more) h))
      (stopped.follows others));
}

-- all words were read
pub words_all : (w v : World) (course : Start) (count a k j : ℕ) (words : List ℕ) {whole : List ℕ} (next : List ℕ → Start)
    → count ≤ a → length words ≤ a → whole ≡ words → Comes w course k v (words_from a (count - a) (take a words) next)
    → j ≡ k → Comes w course j v (next whole)
words_all w v course count a k j words {whole = whole} next h within same comes e =
    comes_as w v course (words_from a (count - a) (take a words) next) (next whole) k j comes e
    (sym (ap (λ n. words_from a n (take a words) next) (none_left count a h) ∙ words_end a (take a words) next
    ∙ ap next (take_all a words within ∙ sym same)))

-- their sum is right
pub summed_right : (w v : World) (course : Start) (k : ℕ) (words : List ℕ) (next : List ℕ → Start) → IsSummed words
    → Comes w course k v (summed next words) → Comes w course k v (next words)
summed_right w v course k words next is comes =
    comes_as w v course (summed next words) (next words) k k comes refl
    (chosen (sum words % 0x1_0000 == 0xBABA) (next words) (done (Some cause.Checksum)) (eq-eqb _ _ is))

-- their sum is wrong
pub summed_wrong : {w v : World} (course : (List ℕ → Start) → Start) (k : ℕ) {before after : ℕ} (words : List ℕ)
    → (IsSummed words → ⊥) → ((next : List ℕ → Start) → Comes w (course next) k v (summed next words))
    → after ≡ before + k → Stops w course before cause.Checksum v after
summed_wrong {w = w} {v = v} course k {before = before} {after = after} words is comes counted = record {
  events = k;
  counted = counted;
  follows = λ next.
      let other = not_chosen (sum words % 0x1_0000 == 0xBABA) (next words) (done (Some cause.Checksum)) (ne_eqb _ _
      is) in
      comes_on w v v (course next) (summed next words) k 0 k (Some cause.Checksum) (comes next) (omega arith)
      (subst (λ x. Follows v x 0 (Some cause.Checksum) v) other
      (ends_with v (Some cause.Checksum) (Some cause.Checksum) refl));
}

-- ---- the whole

-- what comes behind the EEPROM
abbrev behind_eeprom : Layout → List ℕ → Start
behind_eeprom l words =
    receive_address words (multicast_table (receive_ring l (transmit_ring l (done None))))

-- a start has come to the EEPROM
pub at_eeprom : (w m : World) (l : Layout) → Performs w global_reset 4 m
    → Comes w (start l) 4 m (eeprom (behind_eeprom l))
unfolding start after_reset global_reset
at_eeprom w m l reset = reset (eeprom (behind_eeprom l))

-- to the receive ring
pub at_receive : (w m1 m2 m3 m4 : World) (l : Layout) (words : List ℕ) → Performs w global_reset 4 m1
    → Gives m1 eeprom 128 words m2 → Performs m2 (receive_address words) 2 m3 → Performs m3 multicast_table 128 m4
    → Comes w (start l) 262 m4 (receive_ring l (transmit_ring l (done None)))
at_receive w m1 m2 m3 m4 l words reset gives address table =
    let ring : Start = receive_ring l (transmit_ring l (done None)) in
    comes_both w m1 m4 (start l) (eeprom (behind_eeprom l)) ring 4 258 262 (at_eeprom w m1 l reset) refl
    (comes_both m1 m2 m4 (eeprom (behind_eeprom l)) (behind_eeprom l words) ring 128 130 258
    (gives (behind_eeprom l)) refl
    (comes_both m2 m3 m4 (behind_eeprom l words) (multicast_table ring) ring 2 128 130
    (address (multicast_table ring)) refl
    (table ring)))

-- to the transmit ring
pub at_transmit : (w m v : World) (l : Layout) {k : Layout}
    → Comes w (start l) 262 m (receive_ring l (transmit_ring l (done None)))
    → k ≡ l → Performs m (receive_ring k) (k.rx_count + 6) v
    → Comes w (start l) (268 + l.rx_count) v (transmit_ring l (done None))
at_transmit w m v l {k = k} comes e ring =
    comes_both w m v (start l) (receive_ring l (transmit_ring l (done None))) (transmit_ring l (done None))
    262 (l.rx_count + 6) (268 + l.rx_count) comes (omega arith)
    (subst (λ x. Performs m (receive_ring x) (x.rx_count + 6) v) e ring (transmit_ring l (done None)))

-- to its end
pub at_end : (w m v : World) (l : Layout) {k : Layout} {events : ℕ}
    → Comes w (start l) (268 + l.rx_count) m (transmit_ring l (done None)) → k ≡ l
    → Performs m (transmit_ring k) (k.tx_count + 7) v → events ≡ start_events l → Follows w (start l) events None v
at_end w m v l {k = k} {events = events} comes e ring counted =
    comes_on w v v (start l) (done None) (275 + l.rx_count + l.tx_count) 0 events None
    (comes_both w m v (start l) (transmit_ring l (done None)) (done None) (268 + l.rx_count) (l.tx_count + 7)
    (275 + l.rx_count + l.tx_count) comes (omega arith)
    (subst (λ x. Performs m (transmit_ring x) (x.tx_count + 7) v) e ring (done None)))
    (omega (arith, counted)) (ends_with v None None refl)

-- the parts that stop
pub stops_at_reset : {w v : World} (l : Layout) {before after : ℕ} {why : Cause} → before ≡ 0
    → Stops w global_reset before why v after → Follows w (start l) after (Some why) v
unfolding start after_reset global_reset
stops_at_reset {w = w} {v = v} l {before = before} {after = after} {why = why} counted stopped =
    comes_stops w w v (start l) global_reset (eeprom (behind_eeprom l)) 0 before after why
    (comes_none w (start l)) counted stopped

-- a layout, in other words, at a part that stopped
pub stops_as : {w v : World} (part : Layout → Part) {l k : Layout} {before after : ℕ} {why : Cause}
    → Stops w (part k) before why v after → k ≡ l → Stops w (part l) before why v after
stops_as {w = w} {v = v} part {l = l} {before = before} {after = after} {why = why} stopped e = subst (λ x. Stops w (part x) before why v after) e stopped

-- a good layout is placed
placed_side : (base end : ℕ) (side : Side) → IsGoodSide base end side → end ≤ 0xFFFF_FFFF_FFFF_FFFF → IsPlacedSide side
placed_side base end side good h = record {
  count = good.count;
  inside = record {
    ring_from = omega arith;
    ring = omega (arith, good.inside.ring, h);
    buffers_from = omega arith;
    buffers = omega (arith, good.inside.buffers, h);
  };
}

pub placed : (base end : ℕ) (l : Layout) → IsGoodLayout base end l → end ≤ 0xFFFF_FFFF_FFFF_FFFF → IsPlaced l
placed base end l good h = record {
  receive = placed_side base end (rx l) good.receive h;
  transmit = placed_side base end (tx l) good.transmit h;
}
