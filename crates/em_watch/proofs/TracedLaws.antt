-- A watched thing, followed back over records.
use Rattle.std.proofs.Common.{◌≡◌, ℕ, ◌+◌, ◌-◌, ◌≤◌, Bool, true, false, cond, List, [], ◌∷◌, ◌++◌, zero, suc}
use Rattle.std.proofs.Common.{length, length-append, take, drop, map, refl, sym, ap, ◌∙◌, subst, arith, Some}
use Rattle.std.specs.Prelude.{◌||◌, ◌&&◌, nat_lt, slice_get, slice_index, replicate}
use Rattle.std.specs.Option.{option_map}
use Rattle.std.proofs.Math.Seq.{take-append_seam, drop-append_seam}
use Rattle.std.proofs.lemmas.Bool.Decides.{nat_tests}
use Rattle.std.proofs.lemmas.List.{length-take-le, take-append-drop}
use Rattle.std.proofs.lemmas.Option.{slice_get-map}
use Rattle.em_mem.specs.Memory.{leaves, part}
use Rattle.em_mem.proofs.NeedsLaws.{lies_by_test}
use Rattle.em_mem.proofs.PutLaws.{length-part}
use Rattle.em_regs.specs.declared.reg.Reg.{Reg}
use Rattle.em_regs.specs.declared.reg.Reg.TheVariants.{Icr, Ims}
use Rattle.em_regs.specs.Table.{has_reg, index_of, row_of}
use Rattle.em_step.specs.Cells.{Cells, shows}
use Rattle.em_phy.specs.declared.word.PhyWord.{PhyWord}
use Rattle.em_step.specs.State.{State, is_adapter}
use Rattle.em_step.specs.Undo.{Undo, Fits, undo}
use Rattle.em_step.specs.Access.{gives}
use Rattle.em_step.proofs.SizeLaws.{memory_base, memory_size, profile_stays}
use Rattle.em_journal.specs.View.{View, states}
use Rattle.em_mem.specs.Window.{IsWindow}
use Rattle.em_step.specs.Before.{PutsBack}
use Rattle.em_journal.specs.Record.{IsRecordAt}
use Rattle.em_watch.specs.Watching.{is_there, sight, sights}
use Rattle.em_watch.specs.Traced.{traced, traced_octets, shown}
use Rattle.em_watch.specs.Traced.{IsTraceable, IsTraced, TakesBack, OctetsGoBack, LeadsBack}
use Rattle.em_watch.specs.declared.range.TheConstants.{MOST_WATCHED}
use Rattle.em_watch.specs.declared.range.MemoryRange.{MemoryRange}
use Rattle.em_watch.specs.declared.watch.Watch.{Watch}
use Rattle.em_watch.specs.declared.watch.Watch.TheVariants.{Register, Octets, Line, Link, Frames, Sent, Phy}
use Rattle.em_watch.specs.declared.traced.Traced.{Traced}
use Rattle.em_watch.specs.declared.traced.Traced.TheVariants as traced

-- ---- what is seen of it

shown_if : (b : Bool) (t u : Traced) → shown (cond b t u) ≡ cond b (shown t) (shown u)
shown_if true t u = refl
shown_if false t u = refl

pub shown-traced : (w : Watch) (s : State) → shown (traced w s) ≡ sight w s
shown-traced (Register reg) s = shown_if (is_there s reg) _ _
shown-traced (Octets range) s = shown_if (leaves s.base s.memory range.addr range.len) _ _
shown-traced Line s = refl
shown-traced Link s = refl
shown-traced Frames s = refl
shown-traced Sent s = refl
shown-traced (Phy word) s = shown_if (is_adapter s.profile) _ _

-- ---- before the event of a record

-- what a step back makes of it: of the same register or range, and what is put back
abbrev pub GoesBack : Undo → Traced → Traced → Type 0
GoesBack r traced.Nothing u = traced.Nothing ≡ u
GoesBack r (traced.Register reg value) u =
    (new : ℕ) × (traced.Register reg new ≡ u) × PutsBack r (λ s. gives s reg) value new
GoesBack r (traced.Octets range octets) u =
    (new : List ℕ) × (traced.Octets range new ≡ u) × OctetsGoBack r range.addr range.len octets new
GoesBack r (traced.Line x y) u =
    (new : ℕ × ℕ) × (traced.Line new.0 new.1 ≡ u) × PutsBack r (λ s. gives s Icr) x new.0
    × PutsBack r (λ s. gives s Ims) y new.1
GoesBack r (traced.Link up) u = (new : Bool) × (traced.Link new ≡ u) × PutsBack r (λ s. s.link) up new
GoesBack r (traced.Frames count) u =
    (new : ℕ) × (traced.Frames new ≡ u) × PutsBack r (λ s. length s.fifo.frames) count new
GoesBack r (traced.Sent count) u =
    (new : ℕ) × (traced.Sent new ≡ u) × PutsBack r (λ s. length s.wire) count new
GoesBack r (traced.Phy word value up) u =
    (new : ℕ × Bool) × (traced.Phy word new.0 new.1 ≡ u)
    × PutsBack r (λ s. slice_index s.phy.words word.number) value new.0 × PutsBack r (λ s. s.link) up new.1

register_back : (c : Cells) (r : Undo) (reg : Reg) (u : Traced) (b : Bool) → Fits c r
    → GoesBack r (cond b (traced.Register reg (gives (shows c) reg)) traced.Nothing) u
    → cond b (traced.Register reg (gives (shows (undo c r)) reg)) traced.Nothing ≡ u
register_back c r reg u true fits goes = ap (traced.Register reg) (goes.2 c fits refl) ∙ goes.1
register_back c r reg u false fits goes = goes

-- a word of the PHY as it is traced
abbrev word_of : State → PhyWord → Traced
word_of s word = traced.Phy word (slice_index s.phy.words word.number) s.link

word_back : (c : Cells) (r : Undo) (word : PhyWord) (u : Traced) (b : Bool) → Fits c r
    → GoesBack r (cond b (word_of (shows c) word) traced.Nothing) u
    → cond b (word_of (shows (undo c r)) word) traced.Nothing ≡ u
word_back c r word u true fits goes =
    let value = goes.2 c fits refl in
    let up = goes.3 c fits refl in
    (λ i. traced.Phy word (value i) (up i)) ∙ goes.1
word_back c r word u false fits goes = goes

-- octets with what lies behind them
padded : (c : Cells) (r : Undo) (a n : ℕ) (behind new : List ℕ) → Fits c r → a + n ≤ length (shows c).memory
    → OctetsGoBack r a n (part (shows c).memory a n ++ behind) new
    → part (shows (undo c r)).memory a n ++ behind ≡ new
padded c r a n behind new fits held goes =
    let m = (shows c).memory in
    let old = part m a n in
    let len : length old ≡ n = length-part m a n held in
    let front : take n (old ++ behind) ≡ old
    = subst (λ k. take k (old ++ behind) ≡ old) len (take-append_seam old behind) in
    let rest : drop n (old ++ behind) ≡ behind
    = subst (λ k. drop k (old ++ behind) ≡ behind) len (drop-append_seam old behind) in
    let is_window : IsWindow m a old = ap (part m a) len in
    let now = goes.window c fits (subst (IsWindow m a) (sym front) is_window) in
    let size : length (take n new) ≡ n
    = length-take-le n new (omega (arith, goes.size, length-append old behind, len)) in
    let there : part (shows (undo c r)).memory a n ≡ take n new
    = ap (part (shows (undo c r)).memory a) (sym size) ∙ now in
    let after : drop n new ≡ behind = goes.behind ∙ rest in
    (λ i. there i ++ sym after i) ∙ take-append-drop n new

octets_back : (c : Cells) (r : Undo) (range : MemoryRange) (behind : List ℕ) (u : Traced) (b : Bool)
    → leaves (shows c).base (shows c).memory range.addr range.len ≡ b → Fits c r
    → GoesBack r (cond b traced.Nothing (traced.Octets range (part (shows c).memory range.addr range.len ++ behind))) u
    → cond b traced.Nothing (traced.Octets range (part (shows (undo c r)).memory range.addr range.len ++ behind)) ≡ u
octets_back c r range behind u true there fits goes = goes
octets_back c r range behind u false there fits goes =
    let held : range.addr + range.len ≤ length (shows c).memory
    = (lies_by_test (shows c).base (shows c).memory range.addr range.len there).to in
    ap (traced.Octets range) (padded c r range.addr range.len behind goes.0 fits held goes.2) ∙ goes.1

-- as memory keeps its base and its size
octets_size : (base : ℕ) (memory : List ℕ) (range : MemoryRange) (was size : ℕ) → base ≡ was → length memory ≡ size
    → traced_octets base memory range
    ≡ cond (nat_lt range.addr was || nat_lt size (range.addr + range.len)) traced.Nothing
    (traced.Octets range (part memory range.addr range.len ++ replicate (MOST_WATCHED - range.len) 0))
octets_size base memory range was size begins is =
    λ i. cond (nat_lt range.addr (begins i) || nat_lt (is i) (range.addr + range.len)) traced.Nothing
    (traced.Octets range (part memory range.addr range.len ++ replicate (MOST_WATCHED - range.len) 0))

back_at : (w : Watch) (c : Cells) (r : Undo) (u : Traced) → Fits c r → GoesBack r (traced w (shows c)) u
    → traced w (shows (undo c r)) ≡ u
back_at (Register reg) c r u fits goes =
    ap (λ p. cond (nat_lt (index_of reg) (row_of reg).words && has_reg p reg)
    (traced.Register reg (gives (shows (undo c r)) reg)) traced.Nothing) (profile_stays c r)
    ∙ register_back c r reg u (is_there (shows c) reg) fits goes
back_at (Octets range) c r u fits goes =
    octets_size (shows (undo c r)).base (shows (undo c r)).memory range (shows c).base (length (shows c).memory)
    (memory_base c r) (memory_size c r fits)
    ∙ octets_back c r range (replicate (MOST_WATCHED - range.len) 0) u
    (leaves (shows c).base (shows c).memory range.addr range.len) refl fits goes
back_at Line c r u fits goes =
    let causes = goes.2 c fits refl in
    let mask = goes.3 c fits refl in
    (λ i. traced.Line (causes i) (mask i)) ∙ goes.1
back_at Link c r u fits goes = ap traced.Link (goes.2 c fits refl) ∙ goes.1
back_at Frames c r u fits goes = ap traced.Frames (goes.2 c fits refl) ∙ goes.1
back_at Sent c r u fits goes = ap traced.Sent (goes.2 c fits refl) ∙ goes.1
back_at (Phy word) c r u fits goes =
    ap (λ p. cond (is_adapter p) (word_of (shows (undo c r)) word) traced.Nothing) (profile_stays c r)
    ∙ word_back c r word u (is_adapter (shows c).profile) fits goes

pub takes_back : (r : Undo) (t u : Traced) → GoesBack r t u → TakesBack r t u
takes_back r t u goes w c fits same = back_at w c r u fits (subst (λ x. GoesBack r x u) (sym same) goes)

-- ---- so many steps back

-- an item of a list that was mapped
pub from_map : {A B : Type 0} (f : A → B) (xs : List A) (k : ℕ) (y : B) → slice_get (map f xs) k ≡ Some y
    → (x : A) × (slice_get xs k ≡ Some x) × (f x ≡ y)
from_map f [] k y e = cc
from_map f (x ∷ xs) zero y e = (x, refl, cc)
from_map f (x ∷ xs) (suc k) y e = from_map f xs k y e

pub some_is : {A : Type 0} (x y : A) → Some x ≡ Some y → x ≡ y
some_is x y e = cc

pub next_item : {A : Type 0} (x : A) (xs : List A) (k : ℕ) → slice_get (x ∷ xs) (k + 1) ≡ slice_get xs k
next_item x xs k =
    let next : k + 1 ≡ suc k = omega arith in
    ap (slice_get (x ∷ xs)) next

pub mapped : {A B : Type 0} (f : A → B) (xs : List A) (k : ℕ) (x : A) → slice_get xs k ≡ Some x
    → slice_get (map f xs) k ≡ Some (f x)
mapped f xs k x e = slice_get-map f xs k ∙ ap (option_map f) e

-- one step more
pub traced_next : (v : View) (k : ℕ) (r : Undo) (t u : Traced) → IsRecordAt v k r → TakesBack r t u
    → LeadsBack v k t (k + 1) u
traced_next v k r t u at takes w is =
    let here = from_map (traced w) (states v) k t is in
    let same : here.0 ≡ shows at.0 = some_is here.0 (shows at.0) (sym here.1 ∙ at.2) in
    let back = takes w at.0 at.1 (ap (traced w) (sym same) ∙ here.2) in
    next_item (traced w v.present) (map (traced w) v.past) k
    ∙ mapped (traced w) v.past k (shows (undo at.0 r)) at.3 ∙ ap Some back

-- what is seen there
pub seen_there : (w : Watch) (v : View) (k : ℕ) (t : Traced) → IsTraced w v k t
    → slice_get (sights w v) k ≡ Some (shown t)
seen_there w v k t is =
    let here = from_map (traced w) (states v) k t is in
    mapped (sight w) (states v) k here.0 here.1 ∙ ap Some (sym (shown-traced w here.0) ∙ ap shown here.2)

traceable_if : (reg : Reg) (value : ℕ) (a b : Bool) → nat_lt (index_of reg) (row_of reg).words ≡ a
    → IsTraceable (cond (a && b) (traced.Register reg value) traced.Nothing)
traceable_if reg value true true there = grind (arith, nat_tests)
traceable_if reg value true false there = tt
traceable_if reg value false b there = tt

octets_traceable : (range : MemoryRange) (octets : List ℕ) (b : Bool)
    → IsTraceable (cond b traced.Nothing (traced.Octets range octets))
octets_traceable range octets true = tt
octets_traceable range octets false = tt

word_traceable : (word : PhyWord) (value : ℕ) (up b : Bool)
    → IsTraceable (cond b (traced.Phy word value up) traced.Nothing)
word_traceable word value up true = tt
word_traceable word value up false = tt

traceable : (w : Watch) (s : State) → IsTraceable (traced w s)
traceable (Register reg) s =
    traceable_if reg (gives s reg) (nat_lt (index_of reg) (row_of reg).words) (has_reg s.profile reg) refl
traceable (Octets range) s = octets_traceable range _ (leaves s.base s.memory range.addr range.len)
traceable Line s = tt
traceable Link s = tt
traceable Frames s = tt
traceable Sent s = tt
traceable (Phy word) s = word_traceable word _ s.link (is_adapter s.profile)

pub traceable_now : (w : Watch) (s : State) (t : Traced) → t ≡ traced w s → IsTraceable t
traceable_now w s t is = subst IsTraceable (sym is) (traceable w s)

-- its register is one of the table
pub traceable_there : (w : Watch) (v : View) (k : ℕ) (t : Traced) → IsTraced w v k t → IsTraceable t
traceable_there w v k t is =
    let here = from_map (traced w) (states v) k t is in
    subst IsTraceable here.2 (traceable w here.0)
