-- One turn of another actor, in a state as a driver keeps it.
use Rattle.std.proofs.Common.{◌≡◌, ◌∙◌, ◌⊎◌, ℕ, List, [], ◌∷◌, ◌++◌, length, refl, sym, ap}
use Rattle.std.proofs.Common.{subst}
use Rattle.std.proofs.Common.{inl, inr, arith, Ok}
use Rattle.em_regs.specs.declared.reg.Reg.TheVariants.{Rdh, Tdh}
use Rattle.em_regs.specs.RegFile as registers
use Rattle.std.specs.FinMap as map
use Rattle.em_regs.specs.Setup.{rx_setup, tx_setup}
use Rattle.em_rx.specs.Frame.{Frame}
use Rattle.em_rx.specs.Receive as rx
use Rattle.em_tx.specs.Ring as tx
use Rattle.em_step.specs.Event.{arrives, receives}
use Rattle.em_step.specs.State.{State}
use Rattle.em_step.specs.Step.{step}
use Rattle.em_step.specs.Whole.{IsPlain, plain, KeepsAllButFifo, Admits, ReceivesWhole, SendsWhole}
use Rattle.em_step.specs.declared.event.Answer.{Answer}
use Rattle.em_step.proofs.WholeLaws.{arrived, received_whole, sent_whole}
use Rattle.std.proofs.lemmas.List.Elements.{All-cons, All-nil}
use Rattle.em_driver.specs.Driven.{IsLaidOut, IsReceivingBut, IsDrivenBut, IsDriven}
use Rattle.em_turn.specs.Turn.{event_of, stored_by}
use Rattle.em_driver.specs.declared.layout.Layout.{Layout}
use Rattle.em_turn.specs.declared.turn.Turn.{Turn}
use Rattle.em_turn.specs.declared.turn.Turn.TheVariants.{Arrive, RxStep, TxStep}
use Rattle.em_driver.proofs.rings.ReceiveRing.{RxMoves, rx_moves_on, rx_kept, rx_same, same_ring}
use Rattle.em_driver.proofs.rings.ReceiveRing.{rx_writes, fills}
use Rattle.em_driver.proofs.rings.ReceiveRing.{moves_fill, buffer_whole, no_long_frames, no_sequences, takes_octets}
use Rattle.em_driver.proofs.rings.TransmitRing.{TxMoves, tx_moves_on, SameTxRing, tx_same, same_tx_ring}
use Rattle.em_driver.proofs.rings.TransmitRing.{sends, moves_send, is_whole}
use Rattle.em_driver.proofs.rings.TransmitRing.{no_tags, pads}
use Rattle.em_driver.proofs.rings.SideRegisters.{rx_side, tx_side, is_rx_side, is_tx_side, SameSide, same_side, IsOther}
use Rattle.em_driver.proofs.rings.SideRegisters.{word_other, put_other_side}
use Rattle.em_driver.proofs.rings.MemoryUnits.{rx_ring, rx_buffers, tx_ring, tx_buffers, good_same}

-- what a turn leaves, and the packets that it added to what waits
pub record Moves (l : Layout) (s t : State) (added : List (List ℕ)) : Type 0 where
  pub layout : IsLaidOut l t
  pub receiving : RxMoves l s t added
  pub sending : TxMoves l s t

pub laid_same : (l : Layout) (s t : State) → t.base ≡ s.base → length t.memory ≡ length s.memory → IsLaidOut l s
    → IsLaidOut l t
laid_same l s t base size h = record { good = good_same l base size h.good; placed = h.placed }

-- neither side's ring changed, nor what is on the wire
pub moves_same : (l : Layout) (s t : State) → IsDrivenBut l s → t.registers ≡ s.registers → t.base ≡ s.base
    → t.memory ≡ s.memory
    → t.fifo ≡ s.fifo → t.gathered ≡ s.gathered → t.wire ≡ s.wire → t.profile ≡ s.profile → Moves l s t []
moves_same l s t h regs base memory fifo gathered wire profile = record {
  layout = laid_same l s t base (ap length memory) h.layout;
  receiving = rx_same l s t h.receiving (same_ring l s t (same_side rx_side s.registers t.registers regs) memory profile) fifo;
  sending = tx_same l s t h.sending
      (same_tx_ring l s t (same_side tx_side s.registers t.registers regs) memory gathered wire);
}

pub moves_none : (l : Layout) (s : State) → IsDrivenBut l s → Moves l s s []
moves_none l s h = moves_same l s s h refl refl refl refl refl refl refl

-- a word of the registers that neither side goes by
pub moves_word : (l : Layout) (s : State) (o v : ℕ) → IsDrivenBut l s → IsOther rx_side o → IsOther tx_side o
    → Moves l s (record s { registers = map.insert s.registers o v }) []
moves_word l s o v h rx tx =
    let t : State = record s { registers = map.insert s.registers o v } in
    record {
      layout = laid_same l s t refl refl h.layout;
      receiving = rx_same l s t h.receiving (same_ring l s t (word_other is_rx_side s.registers o v rx) refl refl) refl;
      sending = tx_same l s t h.sending (same_tx_ring l s t (word_other is_tx_side s.registers o v tx) refl refl refl);
    }

-- ---- arrivals and receive steps

-- What they leave: the receive side moves, nothing of the transmit side changes, and of the registers RDH at most.
pub record RxTurn (l : Layout) (s t : State) (added : List (List ℕ)) : Type 0 where
  pub layout : IsLaidOut l t
  pub receiving : RxMoves l s t added
  pub sending : SameTxRing l s t
  pub registers : (t.registers ≡ s.registers) ⊎ ((next : ℕ) × (t.registers ≡ registers.put s.registers Rdh next))

nothing : (l : Layout) (s : State) → IsLaidOut l s → IsReceivingBut l s → RxTurn l s s []
nothing l s laid h = record {
  layout = laid;
  receiving = rx_same l s s h (same_ring l s s (same_side rx_side s.registers s.registers refl) refl refl) refl;
  sending = same_tx_ring l s s (same_side tx_side s.registers s.registers refl) refl refl refl;
  registers = inl refl;
}

admitted : (l : Layout) (s t : State) (f : List ℕ) (answer : Answer) → IsLaidOut l s → IsReceivingBut l s
    → KeepsAllButFifo s t → Admits s f answer t → RxTurn l s t (stored_by (Arrive f) answer)
admitted l s t f answer laid h k (inl dropped) =
    subst (RxTurn l s t) (sym (ap (stored_by (Arrive f)) dropped.1))
    (record {
      layout = laid_same l s t k.base (ap length k.memory) laid;
      receiving = rx_same l s t h (same_ring l s t (same_side rx_side s.registers t.registers k.registers) k.memory k.profile)
          dropped.2;
      sending = same_tx_ring l s t (same_side tx_side s.registers t.registers k.registers) k.memory k.gathered k.wire;
      registers = inl k.registers;
    })
admitted l s t f answer laid h k (inr stored) =
    subst (RxTurn l s t) (sym (ap (stored_by (Arrive f)) stored.0))
    (record {
      layout = laid_same l s t k.base (ap length k.memory) laid;
      receiving = rx_kept l s t (plain f ∷ []) h
          (same_ring l s t (same_side rx_side s.registers t.registers k.registers) k.memory k.profile) stored.3
          (All-cons IsPlain (plain f) [] (record { usual = stored.2; untagged = refl }) (All-nil IsPlain));
      sending = same_tx_ring l s t (same_side tx_side s.registers t.registers k.registers) k.memory k.gathered k.wire;
      registers = inl k.registers;
    })

pub arrival_turn : (l : Layout) (s : State) (f : List ℕ) (r : Answer × State) → IsLaidOut l s → IsReceivingBut l s
    → step s (arrives f) ≡ Ok r → RxTurn l s r.1 (stored_by (Arrive f) r.0)
arrival_turn l s f r laid h is =
    let a = arrived s f r is (no_long_frames l s h) h.untagged (no_sequences s h.profile) in admitted l s r.1 f r.0 laid h a.0 a.1

received : (l : Layout) (s t : State) → IsLaidOut l s → IsReceivingBut l s
    → (t ≡ s) ⊎ ((f : List ℕ) × (frames : List Frame) × ReceivesWhole s f frames t) → RxTurn l s t []
received l s t laid h (inl same) = subst (λ x. RxTurn l s x []) (sym same) (nothing l s laid h)
received l s t laid h (inr (f, frames, r)) =
    let w = rx_writes l s t f frames laid h r in
    let next : ℕ = rx.following (rx_setup s.registers) in
    record {
      layout = laid_same l s t r.base (w.back.size ∙ w.packet.size) laid;
      receiving = moves_fill l s t f frames h (fills l s t f frames laid h r);
      sending = record {
        registers = subst (SameSide tx_side s.registers) (sym r.registers)
            (put_other_side is_tx_side s.registers Rdh next
            (record { ctrl = λ e. omega arith; control = λ e. omega arith; ring = λ e. omega arith }));
        descriptors = λ i low. w.back.other tx_ring i low tt ∙ w.packet.other tx_ring i low tt;
        buffers = λ i low. w.back.other tx_buffers i low tt ∙ w.packet.other tx_buffers i low tt;
        gathered = r.gathered;
        wire = r.wire;
      };
      registers = inr (next, r.registers);
    }

pub receive_turn : (l : Layout) (s : State) (r : Answer × State) → IsLaidOut l s → IsReceivingBut l s
    → step s receives ≡ Ok r → RxTurn l s r.1 []
receive_turn l s r laid h is =
    received l s r.1 laid h (received_whole s r is (buffer_whole l s h) h.taken h.frames (takes_octets s h.profile))

rx_turn_moves : (l : Layout) (s t : State) (added : List (List ℕ)) → IsDrivenBut l s → RxTurn l s t added
    → Moves l s t added
rx_turn_moves l s t added h k =
    record { layout = k.layout; receiving = k.receiving; sending = tx_same l s t h.sending k.sending }

-- ---- transmit steps

stays : (l : Layout) (s t : State) → IsDrivenBut l s → t ≡ s → Moves l s t []
stays l s t h is = subst (λ x. Moves l s x []) (sym is) (moves_none l s h)

sent : (l : Layout) (s t : State) → IsDrivenBut l s → SendsWhole s t → Moves l s t []
sent l s t h r =
    let k = sends l s t h.receiving.profile h.layout h.sending r in
    let w = k.0 in
    record {
      layout = laid_same l s t r.base w.size h.layout;
      receiving = rx_same l s t h.receiving (record {
        registers = subst (SameSide rx_side s.registers) (sym r.registers)
            (put_other_side is_rx_side s.registers Tdh (tx.next (tx_setup s.registers))
            (record { ctrl = λ e. omega arith; control = λ e. omega arith; ring = λ e. omega arith }));
        descriptors = λ i low. w.other rx_ring i low tt;
        buffers = λ i low. w.other rx_buffers i low tt;
        profile = r.profile;
      }) r.fifo;
      sending = moves_send l s t h.sending k.1;
    }

sent_or_not : (l : Layout) (s t : State) → IsDrivenBut l s → (t ≡ s) ⊎ SendsWhole s t → Moves l s t []
sent_or_not l s t h (inl same) = stays l s t h same
sent_or_not l s t h (inr r) = sent l s t h r

-- a turn that is performed
pub turn_moves : (l : Layout) (s : State) (t : Turn) (r : Answer × State) → IsDrivenBut l s
    → step s (event_of t) ≡ Ok r → Moves l s r.1 (stored_by t r.0)
turn_moves l s (Arrive f) r h is =
    rx_turn_moves l s r.1 (stored_by (Arrive f) r.0) h (arrival_turn l s f r h.layout h.receiving is)
turn_moves l s RxStep r h is = rx_turn_moves l s r.1 [] h (receive_turn l s r h.layout h.receiving is)
turn_moves l s TxStep r h is =
    sent_or_not l s r.1 h
    (sent_whole s r is (no_tags l s h.sending) (pads l s h.sending) h.sending.gathered
    (is_whole l s h.receiving.profile h.layout h.sending))

-- ---- what is driven stays so

pub but_moves : (l : Layout) (s t : State) (a : List (List ℕ)) → Moves l s t a → IsDrivenBut l t
but_moves l s t a m = record { layout = m.layout; receiving = m.receiving.but; sending = m.sending.sending }

pub driven_moves : (l : Layout) (s t : State) (a : List (List ℕ)) → Moves l s t a → IsDriven l s → IsDriven l t
driven_moves l s t a m h = record { but = but_moves l s t a m; marked = m.receiving.mark h.marked }

pub moves_on : (l : Layout) (s t u : State) (a b : List (List ℕ)) → Moves l s t a → Moves l t u b → Moves l s u (a ++ b)
moves_on l s t u a b h k = record {
  layout = k.layout;
  receiving = rx_moves_on l s t u a b h.receiving k.receiving;
  sending = tx_moves_on l s t u h.sending k.sending;
}
