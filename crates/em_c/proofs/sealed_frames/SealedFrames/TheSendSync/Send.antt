-- A seal may go to another thread, as the box that it stands for may.
use Rattle.std.specs.Prelude.{Option, Some, None}
use mir.Raw.{raw}
use base.Shift.{Keyless}
use denote.Memory.{lone}
use denote.RawPtr.{Ptr}
use denote.Struct.Struct.{exits_of}
use denote.Struct.Owning.{shape, fields, to}
use denote.Param.Send.{IsSend, AllSend, owning_send, struct_send, sendable}
use Rattle.std.proofs.Crossing as heap
use Rattle.std.specs.Global.{Global}
use Rattle.std_alloc.proofs.SendSync.{quiet, lies}
use Rattle.std_heap.proofs.Global.TheSendSync as handle
use Rattle.em_c.specs.declared.captured.Frames.{Frames}
use Rattle.em_c.specs.contracts.captured.Frames as Row
use Rattle.em_c.proofs.captured.Frames.TheSendSync.{the_send as frames}
use Rattle.em_c.specs.SealedFrames.{sealed_owns}
use Rattle.em_c.specs.contracts.sealed_frames.SealedFrames.{the_row, the_type}

held : (alloc : Global) (ptr : Ptr) (v : Option Frames) → Keyless (sealed_owns alloc ptr v)
held alloc ptr None = tt
held alloc ptr (Some v) = (lies Row.the_row frames ptr v, heap.frees.frees alloc (raw (lone Row.the_row.mir)) ptr)

pub send : IsSend the_row
send =
    let all : AllSend (fields the_type) = (search sendable, (handle.the_field_send, tt)) in
    owning_send the_type all (λ d. held d.alloc d.ptr d.held) (λ k. quiet (to the_type) (exits_of k (fields
    the_type)) ((struct_send (shape the_type) all).leaving k))
