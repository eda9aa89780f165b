-- As long as what a test looked at stays, a frame is dropped.
use Rattle.std.proofs.Common.{◌≡◌, ◌∙◌, ◌+◌, ◌*◌, ◌/◌, ◌%◌, ◌^◌, ◌<◌, ◌≤◌, ℕ, zero, suc, Bool, true, false, List, []}
use Rattle.std.proofs.Common.{◌∷◌, Option, Some, None, refl, length, sym, ap, subst, arith}
use Rattle.std.specs.Prelude.{◌==◌, ◌&&◌, ◌||◌, nat_le, nat_lt, not, is_some, slice_get, slice_index, option_map}
use Rattle.std.specs.Prelude.{if◌then◌else◌, bit_and}
use Rattle.std.specs.List.{list_any, range_with_len}
use Rattle.em_address.specs.declared.kind.Kind.{Kind}
use Rattle.em_address.specs.declared.kind.Kind.TheVariants as kind
use Rattle.em_address.specs.Kind.{destination, kind_of, source}
use Rattle.em_filter.specs.Address.{accepts, has_hash, has_source, hash_of, is_entry_at, is_in_table, is_source_at}
use Rattle.em_filter.specs.Address.{passes_bam, passes_hash, passes_mpe, passes_upe}
use Rattle.em_filter.specs.Bits.{is_second}
use Rattle.em_filter.specs.Control.{is_other_control, is_pause, passes_dpf, passes_pmcf}
use Rattle.em_filter.specs.Filters.{longest, passes_address}
use Rattle.em_filter.specs.Vlan.{agree, cfi_of, passes_cfi, passes_vlan, tag_of, tagged, type_of}
use Rattle.em_filter.proofs.TableLaws.{in_table_by_entry}
use Rattle.em_regs.specs.declared.reg.Reg.TheVariants.{Ctrl, Vet, Rctl, Mta, Ral, Rah, Vfta}
use Rattle.em_regs.specs.Setup.{bit, has, value_of}
use Rattle.em_regs.specs.Storage.{Registers}
use Rattle.em_rx.specs.Fifo.{Fifo, octets_in}
use Rattle.em_rx.specs.Frame.{len_of, stored_frame}
use Rattle.em_step.specs.Arrival.{keeps_sequence, kept_frame, with_sequence}
use Rattle.em_regs.specs.declared.profile.Profile.{Profile}
use Rattle.em_regs.specs.declared.profile.Profile.TheVariants.{Table, Adapter}
use Rattle.em_step.specs.State.{State}
use Rattle.em_step.specs.declared.event.Reason.{Reason}
use Rattle.em_reasons.specs.Bits.{bit_of, word_of}
use Rattle.em_reasons.specs.Dropped.{IsDropped, drop_table, reason_of, to_of, too_long_by, unfiltered_by, unfiltered_so, why}
use Rattle.em_reasons.specs.Looks.{dropped_looks}
use Rattle.em_reasons.specs.SameLooks.{SameEntry, SameLooks}
use Rattle.em_reasons.specs.declared.dropped.Dropped.{Dropped}
use Rattle.em_reasons.specs.declared.dropped.Dropped.TheVariants.{Control}
use Rattle.em_reasons.proofs.BitLemmas.{bit_same, bits_by, bits_within, field_same, has_same}
use Rattle.em_reasons.proofs.LinkLemmas.{link_same}
use Rattle.em_reasons.proofs.TableLemmas.{gives_first}
use Rattle.em_reasons.proofs.StayLemmas.{row, row_is, some_where}
use Rattle.em_reasons.proofs.DropLemmas.{destination_to, drops_with_reason}

-- ---- the tests, where what they look at is the same
any_same : (p q : ℕ → Bool) (from n : ℕ) → ((i : ℕ) → from ≤ i → i < from + n → p i ≡ q i)
    → list_any p (range_with_len from n) ≡ list_any q (range_with_len from n)
any_same p q from zero same = refl
any_same p q from (suc n) same =
    let first : p from ≡ q from = same from (omega arith) (omega arith) in
    let rest : list_any p (range_with_len (from + 1) n) ≡ list_any q (range_with_len (from + 1) n)
    = any_same p q (from + 1) n (λ i low high. same i (omega arith) (omega arith)) in
    ap (λ (b : Bool). b || list_any p (range_with_len (from + 1) n)) first ∙ ap (λ (b : Bool). q from || b) rest

-- an entry is an address by its two registers
abbrev entry_test : ℕ → ℕ → ℕ → Bool
entry_test low high a =
    (has high (2 ^ 31) && high / 2 ^ 16 % 4 == 0) && low + 2 ^ 32 * (high % 2 ^ 16) == a

entry_same : (m n : Registers) (a i : ℕ) → value_of n (Ral i) ≡ value_of m (Ral i)
    → value_of n (Rah i) ≡ value_of m (Rah i) → is_entry_at n a i ≡ is_entry_at m a i
entry_same m n a i low high =
    ap (λ (v : ℕ). entry_test v (value_of n (Rah i)) a) low ∙ ap (λ (v : ℕ). entry_test (value_of m (Ral i)) v a) high

abbrev source_test : ℕ → ℕ → ℕ → Bool
source_test low high a = (has high (2 ^ 31) && high / 2 ^ 16 % 4 == 1) && low + 2 ^ 32 * (high % 2 ^ 16) == a

source_same : (m n : Registers) (a i : ℕ) → value_of n (Ral i) ≡ value_of m (Ral i)
    → value_of n (Rah i) ≡ value_of m (Rah i) → is_source_at n a i ≡ is_source_at m a i
source_same m n a i low high =
    ap (λ (v : ℕ). source_test v (value_of n (Rah i)) a) low ∙ ap (λ (v : ℕ). source_test (value_of m (Ral i)) v a) high

-- the entries of sources are the same
sources_same : (p : Profile) (s t : State) (a : ℕ) → ((i : ℕ) → i < 16 → SameEntry s t i)
    → has_source p t.registers a ≡ has_source p s.registers a
unfolding has_source
sources_same p s t a same =
    ap (λ (b : Bool). is_second p && b)
    (any_same (is_source_at t.registers a) (is_source_at s.registers a) 0 16
    (λ i low high.
    let entry = same i (omega arith) in source_same s.registers t.registers a i entry.0 entry.1))

table_same : (s t : State) (a : ℕ) → ((i : ℕ) → i < 16 → SameEntry s t i)
    → is_in_table t.registers a ≡ is_in_table s.registers a
table_same s t a same =
    in_table_by_entry t.registers a
    ∙ any_same (is_entry_at t.registers a) (is_entry_at s.registers a) 0 16
    (λ i low high.
    let entry = same i (omega arith) in entry_same s.registers t.registers a i entry.0 entry.1)
    ∙ sym (in_table_by_entry s.registers a)

-- the cases of the address filter, by the table, RCTL and the bit of the hash
abbrev accepts_by : Kind → Bool → ℕ → Bool → Bool
accepts_by kind.Unicast table v set = (((table || has v (2 ^ 3)) || false) || false) || false
accepts_by kind.Multicast table v set = (((table || false) || has v (2 ^ 4)) || false) || set
accepts_by kind.Broadcast table v set = (((table || false) || has v (2 ^ 4)) || has v (2 ^ 15)) || set

cases : (k : Kind) (m : Registers) (a : ℕ)
    → ((((is_in_table m a || passes_upe m k) || passes_mpe m k) || passes_bam m k) || passes_hash m k a)
    ≡ accepts_by k (is_in_table m a) (value_of m Rctl) (has_hash m (hash_of m a))
cases kind.Unicast m a = refl
cases kind.Multicast m a = refl
cases kind.Broadcast m a = refl

accepts_cases : (m : Registers) (a : ℕ)
    → accepts m a ≡ accepts_by (kind_of a) (is_in_table m a) (value_of m Rctl) (has_hash m (hash_of m a))
unfolding accepts
accepts_cases m a = cases (kind_of a) m a

-- the hash by MO
abbrev hash_by : ℕ → ℕ → ℕ
hash_by mo a = a / 2 ^ (slice_index (36 ∷ 35 ∷ 34 ∷ 32 ∷ []) mo) % 4096

word_is : (x : ℕ) → x % 4096 / 32 % 128 ≡ x % 4096 / 32
word_is x = omega arith

hash_same : (m n : Registers) (a : ℕ) → value_of n Rctl / 2 ^ 12 % 4 ≡ value_of m Rctl / 2 ^ 12 % 4
    → bit_and (value_of n (Mta (word_of (hash_of m a)))) (2 ^ bit_of (hash_of m a))
    ≡ bit_and (value_of m (Mta (word_of (hash_of m a)))) (2 ^ bit_of (hash_of m a))
    → has_hash n (hash_of n a) ≡ has_hash m (hash_of m a)
hash_same m n a mo word =
    let number = a / 2 ^ (slice_index (36 ∷ 35 ∷ 34 ∷ 32 ∷ []) (value_of m Rctl / 2 ^ 12 % 4)) in
    let k = bit_of (hash_of m a) in
    let at : word_of (hash_of m a) ≡ hash_of m a / 32 = word_is number in
    let here : bit (value_of n (Mta (hash_of m a / 32))) k ≡ bit (value_of m (Mta (hash_of m a / 32))) k
    = subst (λ (w : ℕ). bit (value_of n (Mta w)) k ≡ bit (value_of m (Mta w)) k) at (bit_same k _ _ word) in
    ap (λ (v : ℕ). has_hash n (hash_by v a)) mo ∙ here

-- of RCTL the multicast filter looks at MPE and MO, and of a broadcast at BAM too
group_mo : (x y : ℕ) → bit_and x 0x3010 ≡ bit_and y 0x3010 → x / 2 ^ 12 % 4 ≡ y / 2 ^ 12 % 4
group_mo x y same = field_same 2 12 x y (bits_within 0x3000 0x3010 x y refl same)

-- no filter has an address of this kind then either
address_same : (k : Kind) (s t : State) (to : List ℕ)
    → SameLooks s t (dropped_looks (unfiltered_by k s.registers to))
    → accepts_by k (is_in_table t.registers (destination to)) (value_of t.registers Rctl)
    (has_hash t.registers (hash_of t.registers (destination to)))
    ≡ accepts_by k (is_in_table s.registers (destination to)) (value_of s.registers Rctl)
    (has_hash s.registers (hash_of s.registers (destination to)))
address_same kind.Unicast s t to looks =
    let a = destination to in
    let v = value_of t.registers Rctl in
    ap (λ (b : Bool). (((b || has v (2 ^ 3)) || false) || false) || false) (table_same s t a looks.1.0)
    ∙ ap (λ (b : Bool). (((is_in_table s.registers a || b) || false) || false) || false) (has_same (2 ^ 3) _ _ looks.0)
address_same kind.Multicast s t to looks =
    let a = destination to in
    let v = value_of t.registers Rctl in
    let w = value_of s.registers Rctl in
    let set = has_hash t.registers (hash_of t.registers a) in
    let word = bits_by _ (2 ^ bit_of (hash_of s.registers a)) _ _ looks.1.0 in
    ap (λ (b : Bool). (((b || false) || has v (2 ^ 4)) || false) || set) (table_same s t a looks.1.1.0)
    ∙ ap (λ (b : Bool). (((is_in_table s.registers a || false) || b) || false) || set)
    (has_same (2 ^ 4) v w (bits_within (2 ^ 4) 0x3010 v w refl looks.0))
    ∙ ap (λ (b : Bool). (((is_in_table s.registers a || false) || has w (2 ^ 4)) || false) || b)
    (hash_same s.registers t.registers a (group_mo v w looks.0) word)
address_same kind.Broadcast s t to looks =
    let a = destination to in
    let v = value_of t.registers Rctl in
    let w = value_of s.registers Rctl in
    let set = has_hash t.registers (hash_of t.registers a) in
    let group = bits_within 0x3010 0xB010 v w refl looks.0 in
    let word = bits_by _ (2 ^ bit_of (hash_of s.registers a)) _ _ looks.1.0 in
    ap (λ (b : Bool). (((b || false) || has v (2 ^ 4)) || has v (2 ^ 15)) || set) (table_same s t a looks.1.1.0)
    ∙ ap (λ (b : Bool). (((is_in_table s.registers a || false) || b) || has v (2 ^ 15)) || set)
    (has_same (2 ^ 4) v w (bits_within (2 ^ 4) 0x3010 v w refl group))
    ∙ ap (λ (b : Bool). (((is_in_table s.registers a || false) || has w (2 ^ 4)) || b) || set)
    (has_same (2 ^ 15) v w (bits_within (2 ^ 15) 0xB010 v w refl looks.0))
    ∙ ap (λ (b : Bool). (((is_in_table s.registers a || false) || has w (2 ^ 4)) || has w (2 ^ 15)) || b)
    (hash_same s.registers t.registers a (group_mo v w group) word)

accepts_same : (s t : State) (to : List ℕ)
    → SameLooks s t (dropped_looks (unfiltered_by (kind_of (destination to)) s.registers to))
    → accepts t.registers (destination to) ≡ accepts s.registers (destination to)
accepts_same s t to looks =
    accepts_cases t.registers (destination to)
    ∙ address_same (kind_of (destination to)) s t to looks
    ∙ sym (accepts_cases s.registers (destination to))

-- ---- the address filter of the second profile
-- of a MAC control frame all bits of RCTL are looked at that decide
control_looks : (k : Kind) (s t : State) (to : List ℕ)
    → SameLooks s t (dropped_looks (Control to (hash_of s.registers (destination to))))
    → SameLooks s t (dropped_looks (unfiltered_by k s.registers to))
control_looks kind.Unicast s t to looks = (bits_within 0x8 0x80B018 _ _ refl looks.0, (looks.1.1.0, tt))
control_looks kind.Multicast s t to looks =
    (bits_within 0x3010 0x80B018 _ _ refl looks.0, (looks.1.0, (looks.1.1.0, tt)))
control_looks kind.Broadcast s t to looks =
    (bits_within 0xB010 0x80B018 _ _ refl looks.0, (looks.1.0, (looks.1.1.0, tt)))

-- the entries are looked at for each kind
entries_of : (k : Kind) (s t : State) (to : List ℕ) → SameLooks s t (dropped_looks (unfiltered_by k s.registers to))
    → (i : ℕ) → i < 16 → SameEntry s t i
entries_of kind.Unicast s t to looks = looks.1.0
entries_of kind.Multicast s t to looks = looks.1.1.0
entries_of kind.Broadcast s t to looks = looks.1.1.0

-- where it is no such frame, or of the first profile, PMCF does not matter
no_pmcf : (second other set : Bool) → (second && other) ≡ false → ((second && set) && other) ≡ false
no_pmcf false other set h = refl
no_pmcf true false true h = refl
no_pmcf true false false h = refl
no_pmcf true true set h = cc

abbrev pmcf_by : Profile → Registers → List ℕ → Bool
pmcf_by p m f = (is_second p && has (value_of m Rctl) (2 ^ 23)) && is_other_control f

pmcf_cases : (p : Profile) (m : Registers) (f : List ℕ) → passes_pmcf p m f ≡ pmcf_by p m f
unfolding passes_pmcf
pmcf_cases p m f = refl

pmcf_same : (p : Profile) (m n : Registers) (f : List ℕ)
    → bit_and (value_of n Rctl) (2 ^ 23) ≡ bit_and (value_of m Rctl) (2 ^ 23) → passes_pmcf p n f ≡ passes_pmcf p m f
pmcf_same p m n f same =
    pmcf_cases p n f
    ∙ ap (λ (b : Bool). (is_second p && b) && is_other_control f) (has_same (2 ^ 23) _ _ same)
    ∙ sym (pmcf_cases p m f)

pmcf_no_matter : (p : Profile) (m n : Registers) (f : List ℕ) → (is_second p && is_other_control f) ≡ false
    → passes_pmcf p n f ≡ passes_pmcf p m f
pmcf_no_matter p m n f other =
    pmcf_cases p n f
    ∙ no_pmcf (is_second p) (is_other_control f) (has (value_of n Rctl) (2 ^ 23)) other
    ∙ sym (no_pmcf (is_second p) (is_other_control f) (has (value_of m Rctl) (2 ^ 23)) other)
    ∙ sym (pmcf_cases p m f)

plain_looks : (s t : State) (to : List ℕ) (control : Bool)
    → SameLooks s t (dropped_looks (unfiltered_so control s.registers to))
    → SameLooks s t (dropped_looks (unfiltered_by (kind_of (destination to)) s.registers to))
plain_looks s t to true looks = control_looks (kind_of (destination to)) s t to looks
plain_looks s t to false looks = looks

pmcf_either : (p : Profile) (s t : State) (f : List ℕ) (control : Bool) → (is_second p && is_other_control f) ≡ control
    → SameLooks s t (dropped_looks (unfiltered_so control s.registers (to_of f)))
    → passes_pmcf p t.registers f ≡ passes_pmcf p s.registers f
pmcf_either p s t f true is looks =
    pmcf_same p s.registers t.registers f (bits_within (2 ^ 23) 0x80B018 _ _ refl looks.0)
pmcf_either p s t f false is looks = pmcf_no_matter p s.registers t.registers f is

-- the address filter takes the frame then just where it did
address_by : (p : Profile) (s t : State) (f : List ℕ) (control : Bool) → (is_second p && is_other_control f) ≡ control
    → SameLooks s t (dropped_looks (unfiltered_so control s.registers (to_of f)))
    → passes_address p t.registers f ≡ passes_address p s.registers f
address_by p s t f control is looks =
    let to = to_of f in
    let k = kind_of (destination to) in
    let plain : SameLooks s t (dropped_looks (unfiltered_by k s.registers to)) = plain_looks s t to control looks in
    let by_destination : accepts t.registers (destination f) ≡ accepts s.registers (destination f)
    = subst (λ (a : ℕ). accepts t.registers a ≡ accepts s.registers a) (destination_to f)
    (accepts_same s t to plain) in
    let by_source = sources_same p s t (source f) (entries_of k s t to plain) in
    let by_pmcf = pmcf_either p s t f control is looks in
    ap (λ (b : Bool). b || (has_source p t.registers (source f) || passes_pmcf p t.registers f)) by_destination
    ∙ ap (λ (b : Bool). accepts s.registers (destination f) || (b || passes_pmcf p t.registers f)) by_source
    ∙ ap (λ (b : Bool). accepts s.registers (destination f) || (has_source p s.registers (source f) || b)) by_pmcf

-- the VLAN filter by VFE, VET and the bit of the identifier
abbrev passes_by : List ℕ → Bool → ℕ → Bool → Bool
passes_by f on vet set = not ((on && (nat_le 16 (length f) && type_of f == vet)) && not set)

passes_cases : (m : Registers) (f : List ℕ)
    → passes_vlan m f
    ≡ passes_by f (has (value_of m Rctl) (2 ^ 18)) (value_of m Vet)
    (bit (value_of m (Vfta (tag_of f % 4096 / 32))) (tag_of f % 4096 % 32))
unfolding passes_vlan
passes_cases m f = refl

passes_same : (m n : Registers) (f : List ℕ) → bit_and (value_of n Rctl) (2 ^ 18) ≡ bit_and (value_of m Rctl) (2 ^ 18)
    → value_of n Vet ≡ value_of m Vet
    → bit_and (value_of n (Vfta (word_of (tag_of f % 4096)))) (2 ^ bit_of (tag_of f % 4096))
    ≡ bit_and (value_of m (Vfta (word_of (tag_of f % 4096)))) (2 ^ bit_of (tag_of f % 4096))
    → passes_vlan n f ≡ passes_vlan m f
passes_same m n f rctl vet word =
    let id = tag_of f % 4096 in
    let k = id % 32 in
    let here : bit (value_of n (Vfta (id / 32))) k ≡ bit (value_of m (Vfta (id / 32))) k
    = subst (λ (w : ℕ). bit (value_of n (Vfta w)) k ≡ bit (value_of m (Vfta w)) k) (word_is (tag_of f))
    (bit_same k _ _ word) in
    passes_cases n f
    ∙ ap (λ (b : Bool). passes_by f b (value_of n Vet) (bit (value_of n (Vfta (id / 32))) k)) (has_same (2 ^ 18) _ _ rctl)
    ∙ ap (λ (v : ℕ). passes_by f (has (value_of m Rctl) (2 ^ 18)) v (bit (value_of n (Vfta (id / 32))) k)) vet
    ∙ ap (λ (b : Bool). passes_by f (has (value_of m Rctl) (2 ^ 18)) (value_of m Vet) b) here
    ∙ sym (passes_cases m f)

-- the CFI by CFIEN, CFI and VET
abbrev cfi_by : Profile → List ℕ → Bool → Bool → ℕ → Bool
cfi_by p f on wanted vet =
    not ((is_second p && on) && (nat_le 16 (length f) && type_of f == vet) && not (agree wanted (cfi_of f)))

cfi_cases : (p : Profile) (m : Registers) (f : List ℕ)
    → passes_cfi p m f
    ≡ cfi_by p f (has (value_of m Rctl) (2 ^ 19)) (has (value_of m Rctl) (2 ^ 20)) (value_of m Vet)
unfolding passes_cfi
cfi_cases p m f = refl

cfi_same : (p : Profile) (m n : Registers) (f : List ℕ)
    → bit_and (value_of n Rctl) 0x18_0000 ≡ bit_and (value_of m Rctl) 0x18_0000 → value_of n Vet ≡ value_of m Vet
    → passes_cfi p n f ≡ passes_cfi p m f
cfi_same p m n f rctl vet =
    cfi_cases p n f
    ∙ ap (λ (b : Bool). cfi_by p f b (has (value_of n Rctl) (2 ^ 20)) (value_of n Vet))
    (has_same (2 ^ 19) _ _ (bits_within (2 ^ 19) 0x18_0000 _ _ refl rctl))
    ∙ ap (λ (b : Bool). cfi_by p f (has (value_of m Rctl) (2 ^ 19)) b (value_of n Vet))
    (has_same (2 ^ 20) _ _ (bits_within (2 ^ 20) 0x18_0000 _ _ refl rctl))
    ∙ ap (cfi_by p f (has (value_of m Rctl) (2 ^ 19)) (has (value_of m Rctl) (2 ^ 20))) vet
    ∙ sym (cfi_cases p m f)

-- pause frames by DPF
dpf_cases : (p : Profile) (m : Registers) (f : List ℕ)
    → passes_dpf p m f ≡ not ((is_second p && has (value_of m Rctl) (2 ^ 22)) && is_pause f)
unfolding passes_dpf
dpf_cases p m f = refl

dpf_same : (p : Profile) (m n : Registers) (f : List ℕ)
    → bit_and (value_of n Rctl) (2 ^ 22) ≡ bit_and (value_of m Rctl) (2 ^ 22) → passes_dpf p n f ≡ passes_dpf p m f
dpf_same p m n f rctl =
    dpf_cases p n f
    ∙ ap (λ (b : Bool). not ((is_second p && b) && is_pause f)) (has_same (2 ^ 22) _ _ rctl)
    ∙ sym (dpf_cases p m f)

-- whether a tag is taken out, by VME and VET
abbrev tagged_by : List ℕ → Bool → ℕ → Bool
tagged_by f on vet = on && (nat_le 16 (length f) && type_of f == vet)

tagged_cases : (m : Registers) (f : List ℕ)
    → tagged m f ≡ tagged_by f (has (value_of m Ctrl) (2 ^ 30)) (value_of m Vet)
unfolding tagged
tagged_cases m f = refl

tagged_same : (m n : Registers) (f : List ℕ) → bit_and (value_of n Ctrl) (2 ^ 30) ≡ bit_and (value_of m Ctrl) (2 ^ 30)
    → value_of n Vet ≡ value_of m Vet → tagged n f ≡ tagged m f
tagged_same m n f ctrl vet =
    tagged_cases n f
    ∙ ap (λ (b : Bool). tagged_by f b (value_of n Vet)) (has_same (2 ^ 30) _ _ ctrl)
    ∙ ap (λ (v : ℕ). tagged_by f (has (value_of m Ctrl) (2 ^ 30)) v) vet
    ∙ sym (tagged_cases m f)

-- ---- a frame is dropped again
holds_of : (b : Bool) (x d : Dropped) → row b x ≡ row true d → b ≡ true
holds_of b x d h = ap (λ (p : Bool × Dropped). p.0) (row_is (b, x) (true, d) h)

looks_of : (s t : State) (b : Bool) (x d : Dropped) → row b x ≡ row true d → SameLooks s t (dropped_looks d)
    → SameLooks s t (dropped_looks x)
looks_of s t b x d h =
    subst (λ (y : Dropped). SameLooks s t (dropped_looks y))
    (sym (ap (λ (p : Bool × Dropped). p.1) (row_is (b, x) (true, d) h)))

-- as many octets may there be, by what the profile looks at
longest_same : (p : Profile) (s t : State) (n most : ℕ) → SameLooks s t (dropped_looks (too_long_by p n most))
    → longest p t.registers ≡ longest p s.registers
longest_same Table s t n most looks = ap (λ (v : ℕ). if v == 2 ^ 5 then 16384 else 1522) looks.0
longest_same Adapter s t n most looks =
    let v = value_of t.registers Rctl in
    let w = value_of s.registers Rctl in
    ap (λ (b : Bool). if b || has v (2 ^ 5) then 16384 else 1522)
    (has_same (2 ^ 2) v w (bits_within (2 ^ 2) 0x24 v w refl looks.0))
    ∙ ap (λ (b : Bool). if has w (2 ^ 2) || b then 16384 else 1522)
    (has_same (2 ^ 5) v w (bits_within (2 ^ 5) 0x24 v w refl looks.0))

lost_again : (s t : State) (f : List ℕ) (k : ℕ) (d : Dropped) → slice_get (drop_table s f) k ≡ Some (true, d)
    → SameLooks s t (dropped_looks d) → t.profile ≡ s.profile → keeps_sequence t ≡ keeps_sequence s
    → is_some (why t f) ≡ true
lost_again s t f zero d h same profile keeps =
    let looks = looks_of s t _ _ d h same in
    some_where (drop_table t f) 0 _ refl (ap not (link_same t.profile s.profile t.link s.link looks.0) ∙ holds_of _ _ d h)
lost_again s t f (suc zero) d h same profile keeps =
    let looks = looks_of s t _ _ d h same in
    some_where (drop_table t f) 1 _ refl (ap (λ (v : ℕ). not (v == 0x2)) looks.0 ∙ holds_of _ _ d h)
lost_again s t f (suc (suc zero)) d h same profile keeps =
    let looks = looks_of s t _ _ d h same in
    some_where (drop_table t f) 2 _ refl
    (ap (λ (p : Profile). not (passes_address p t.registers f)) profile
    ∙ ap not (address_by s.profile s t f (is_second s.profile && is_other_control f) refl looks) ∙ holds_of _ _ d h)
lost_again s t f (suc (suc (suc zero))) d h same profile keeps =
    some_where (drop_table t f) 3 _ refl (holds_of _ _ d h)
lost_again s t f (suc (suc (suc (suc zero)))) d h same profile keeps =
    let looks = looks_of s t _ _ d h same in
    some_where (drop_table t f) 4 _ refl
    (ap (λ (p : Profile). nat_lt (longest p t.registers) (length f + 4)) profile
    ∙ ap (λ (n : ℕ). nat_lt n (length f + 4)) (longest_same s.profile s t _ _ looks) ∙ holds_of _ _ d h)
lost_again s t f (suc (suc (suc (suc (suc zero))))) d h same profile keeps =
    let looks = looks_of s t _ _ d h same in
    some_where (drop_table t f) 5 _ refl
    (ap not (passes_same s.registers t.registers f looks.0 looks.1.0
    (bits_by _ (2 ^ bit_of (tag_of f % 4096)) _ _ looks.1.1.0)) ∙ holds_of _ _ d h)
lost_again s t f (suc (suc (suc (suc (suc (suc zero)))))) d h same profile keeps =
    let looks = looks_of s t _ _ d h same in
    some_where (drop_table t f) 6 _ refl
    (ap (λ (p : Profile). not (passes_cfi p t.registers f)) profile
    ∙ ap not (cfi_same s.profile s.registers t.registers f looks.0 looks.1.0) ∙ holds_of _ _ d h)
lost_again s t f (suc (suc (suc (suc (suc (suc (suc zero))))))) d h same profile keeps =
    let looks = looks_of s t _ _ d h same in
    some_where (drop_table t f) 7 _ refl
    (ap (λ (p : Profile). not (passes_dpf p t.registers f)) profile
    ∙ ap not (dpf_same s.profile s.registers t.registers f looks.0) ∙ holds_of _ _ d h)
lost_again s t f (suc (suc (suc (suc (suc (suc (suc (suc zero)))))))) d h same profile keeps =
    let looks = looks_of s t _ _ d h same in
    let stored : Bool → Bool → ℕ = λ keeps tag. len_of (stored_frame (with_sequence keeps f) tag) in
    some_where (drop_table t f) 8 _ refl
    (ap (λ (fifo : Fifo). nat_lt 49_152 (octets_in fifo + len_of (kept_frame t f))) looks.0
    ∙ ap (λ (b : Bool). nat_lt 49_152 (octets_in s.fifo + stored (keeps_sequence t) b))
    (tagged_same s.registers t.registers f looks.1.0 looks.1.1.0)
    ∙ ap (λ (b : Bool). nat_lt 49_152 (octets_in s.fifo + stored b (tagged s.registers f))) keeps
    ∙ holds_of _ _ d h)
lost_again s t f (suc (suc (suc (suc (suc (suc (suc (suc (suc k))))))))) d h same profile keeps = cc

-- where there is a reason, the frame is dropped for it
dropped_so : (t : State) (f : List ℕ) (o : Option Dropped) → why t f ≡ o → is_some o ≡ true
    → (again : Reason) × IsDropped t f again
dropped_so t f None is some = cc
dropped_so t f (Some d) is some =
    (reason_of d, (drops_with_reason t f (reason_of d)).1 (ap (option_map reason_of) is))

pub stays_lost : (s t : State) (f : List ℕ) (d : Dropped) → why s f ≡ Some d → SameLooks s t (dropped_looks d)
    → t.profile ≡ s.profile → keeps_sequence t ≡ keeps_sequence s → (again : Reason) × IsDropped t f again
stays_lost s t f d is same profile keeps =
    let found = (gives_first Dropped (drop_table s f) d).0 is in
    dropped_so t f (why t f) refl (lost_again s t f found.0 d found.1.holds same profile keeps)
