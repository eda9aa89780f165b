-- Calls of a driver and events of others, one after another.
use Rattle.std.proofs.Common.{◌≡◌, ◌∙◌, ℕ, List, [], ◌∷◌, ◌++◌, map, sym, ap, append_assoc, append-nil, Ok}
use Rattle.std.proofs.lemmas.List.{append_cancel_left, map-append}
use Rattle.em_step.specs.Event.{Event}
use Rattle.em_step.specs.State.{State}
use Rattle.em_step.specs.Step.{step}
use Rattle.em_step.specs.Whole.{padded}
use Rattle.em_step.specs.declared.event.Answer.{Answer}
use Rattle.em_driver.specs.Driven.{IsDriven}
use Rattle.em_driver.specs.Order.{InOrder, queued, waiting}
use Rattle.em_driver.specs.Others.{IsOthers}
use Rattle.em_driver.specs.Spans.{Span, IsSpan, AreSpans, all_stored, all_handed, all_taken, all_sent, after_spans}
use Rattle.em_driver.specs.Spans.{IsPrefix}
use Rattle.em_driver.specs.Started.{StartsInOrder}
use Rattle.em_turn.specs.Turn.{stored_in}
use Rattle.em_driver.specs.World.{World, present}
use Rattle.em_driver.specs.declared.layout.Layout.{Layout}
use Rattle.em_driver.proofs.order.EventsOfOthers.{others_move}

-- ---- the spans

-- a call is one
pub call_span : (l : Layout) (w v : World) (handed taken : List (List ℕ)) (h : InOrder l w v handed taken)
    → IsSpan l (present w)
    (record { stored = h.stored; handed = handed; taken = taken; sent = h.sent; now = present v })
call_span l w v handed taken h = record { receive = h.receive; transmit = h.transmit; is_sent = h.is_sent }

-- so is an event of others
pub event_span : (l : Layout) (s : State) (e : Event) (r : Answer × State) → IsDriven l s → IsOthers l e
    → step s e ≡ Ok r
    → (sent : List (List ℕ))
    × IsSpan l s (record { stored = stored_in e r.0; handed = []; taken = []; sent = sent; now = r.1 })
event_span l s e r h out is =
    let m = others_move l s e r h.but out is in (
      m.sending.sent,
      record {
        receive = sym m.receiving.waiting;
        transmit = ap (λ x. s.wire ++ x) (append-nil (queued l s)) ∙ sym m.sending.wire;
        is_sent = m.sending.is_sent;
      },
    )

-- ---- all of them

pub received_in_order : (l : Layout) (s : State) (spans : List Span) → AreSpans l s spans
    → waiting l s ++ all_stored spans ≡ all_handed spans ++ waiting l (after_spans s spans)
received_in_order l s [] h = append-nil (waiting l s)
received_in_order l s (x ∷ spans) h =
    sym (append_assoc (waiting l s) x.stored (all_stored spans))
    ∙ ap (λ y. y ++ all_stored spans) h.0.receive
    ∙ append_assoc x.handed (waiting l x.now) (all_stored spans)
    ∙ ap (λ y. x.handed ++ y) (received_in_order l x.now spans h.1)
    ∙ sym (append_assoc x.handed (all_handed spans) (waiting l (after_spans x.now spans)))

-- of one span, without what was on the wire before it
span_sent : (l : Layout) (s : State) (x : Span) → IsSpan l s x
    → queued l s ++ map padded x.taken ≡ x.sent ++ queued l x.now
span_sent l s x h =
    append_cancel_left s.wire (queued l s ++ map padded x.taken) (x.sent ++ queued l x.now)
    (h.transmit ∙ ap (λ y. y ++ queued l x.now) h.is_sent ∙ append_assoc s.wire x.sent (queued l x.now))

pub sent_in_order : (l : Layout) (s : State) (spans : List Span) → AreSpans l s spans
    → queued l s ++ map padded (all_taken spans) ≡ all_sent spans ++ queued l (after_spans s spans)
sent_in_order l s [] h = append-nil (queued l s)
sent_in_order l s (x ∷ spans) h =
    ap (λ y. queued l s ++ y) (map-append padded x.taken (all_taken spans))
    ∙ sym (append_assoc (queued l s) (map padded x.taken) (map padded (all_taken spans)))
    ∙ ap (λ y. y ++ map padded (all_taken spans)) (span_sent l s x h.0)
    ∙ append_assoc x.sent (queued l x.now) (map padded (all_taken spans))
    ∙ ap (λ y. x.sent ++ y) (sent_in_order l x.now spans h.1)
    ∙ sym (append_assoc x.sent (all_sent spans) (queued l (after_spans x.now spans)))

pub wire_grows : (l : Layout) (s : State) (spans : List Span) → AreSpans l s spans
    → (after_spans s spans).wire ≡ s.wire ++ all_sent spans
wire_grows l s [] h = sym (append-nil s.wire)
wire_grows l s (x ∷ spans) h =
    wire_grows l x.now spans h.1 ∙ ap (λ y. y ++ all_sent spans) h.0.is_sent
    ∙ append_assoc s.wire x.sent (all_sent spans)

-- what waited at first was stored, so what is handed out is a prefix of all that was stored
pub handed_prefix : (l : Layout) (s : State) (spans : List Span) (before : List (List ℕ)) → waiting l s ≡ before
    → AreSpans l s spans → IsPrefix (all_handed spans) (before ++ all_stored spans)
handed_prefix l s spans before is h =
    (waiting l (after_spans s spans), ap (λ x. x ++ all_stored spans) (sym is) ∙ received_in_order l s spans h)

-- nothing was queued at first, so what was sent is a prefix of the packets taken, padded
pub sent_prefix : (l : Layout) (s : State) (spans : List Span) → queued l s ≡ [] → AreSpans l s spans
    → IsPrefix (all_sent spans) (map padded (all_taken spans))
sent_prefix l s spans none h =
    (queued l (after_spans s spans), ap (λ x. x ++ map padded (all_taken spans)) (sym none) ∙ sent_in_order l s spans h)

-- after a start
pub started_prefix : (l : Layout) (w v : World) (events : ℕ) (h : StartsInOrder l w events v) (spans : List Span)
    → AreSpans l (present v) spans
    → IsPrefix (all_handed spans) (h.stored ++ all_stored spans)
    × IsPrefix (all_sent spans) (map padded (all_taken spans))
started_prefix l w v events h spans all =
    (handed_prefix l (present v) spans h.stored h.waiting all, sent_prefix l (present v) spans h.queued all)
