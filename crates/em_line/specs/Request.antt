-- What a line asks of a driver, as data, and the words that ask for it.
use Rattle.std.specs.Prelude.{ℕ, ◌==◌, nat_le, if◌then◌else◌, List, [], ◌∷◌, length, codes, Option, Some, None}
use Rattle.std.specs.Option.{option_map}
use Rattle.std.specs.Prelude.{option_and_then}
use Rattle.std.specs.Str.{bytes_eq}
use Rattle.em_text.specs.Numbers.{decimal_number, octets_of}
use Rattle.em_line.specs.Arguments.{Arguments, zero, one}
use Rattle.em_line.specs.Frame.{frame_of}
use Rattle.em_turn.specs.Planned.{lists}
use Rattle.em_line.specs.declared.driver_call.DriverCall.{DriverCall}
use Rattle.em_line.specs.declared.driver_call.DriverCall.TheVariants as call
use Rattle.em_line.specs.declared.request_name.RequestName.{RequestName}
use Rattle.em_line.specs.declared.request_name.RequestName.TheVariants as asked
use Rattle.em_line.specs.declared.request.Request.{Request as Lent}
use Rattle.em_line.specs.declared.request.Request.TheVariants as lent

pub data Request : Type 0 where
  -- a driver is started
  starts : Request
  -- packets are sent
  sends : List (List ℕ) → Request
  -- at most so many packets are received
  receives : ℕ → Request
  -- packets and octets are counted
  stats : Request
  -- the Ethernet address is asked for, or set
  address : Request
  sets_address : List ℕ → Request

-- a request of the code without where its octets lie in memory
abbrev pub plain_call : DriverCall → Request
plain_call (call.Send packets) = sends (lists packets.items)
plain_call (call.Receive most) = receives most
plain_call call.Stats = stats
plain_call call.Address = address
plain_call (call.SetAddress octets) = sets_address octets

abbrev pub plain : Lent → Request
plain lent.Start = starts
plain (lent.Call c) = plain_call c

-- ---- the words

-- a name with no word behind it
abbrev pub alone : Request → Arguments → Option Request
alone request zero = Some request
alone request _ = None

-- send DATA, or send DATA LEN: one packet
abbrev pub send_form : Arguments → Option Request
send_form arguments = option_map (λ packet. sends (packet ∷ [])) (frame_of arguments)

-- a number up to `most`
abbrev pub up_to : ℕ → ℕ → Option ℕ
up_to most n = if nat_le n most then Some n else None

-- recv N
abbrev pub receive_form : Arguments → Option Request
receive_form (one most) = option_map receives (option_and_then (up_to 1024) (decimal_number most))
receive_form _ = None

-- an Ethernet address has 6 octets
abbrev pub address_of : List ℕ → Option (List ℕ)
address_of octets = if length octets == 6 then Some octets else None

-- mac, or mac DATA
abbrev pub address_form : Arguments → Option Request
address_form zero = Some address
address_form (one digits) = option_map sets_address (option_and_then address_of (octets_of digits))
address_form _ = None

-- what is asked by a name, if anything is
abbrev pub request_named : List ℕ → Option RequestName
request_named name =
    if bytes_eq name (codes "init") then Some asked.Start else
    if bytes_eq name (codes "send") then Some asked.Send else
    if bytes_eq name (codes "recv") then Some asked.Receive else
    if bytes_eq name (codes "stats") then Some asked.Stats else
    if bytes_eq name (codes "mac") then Some asked.Address else
    None

-- a request of this name
abbrev pub asked_form : RequestName → Arguments → Option Request
asked_form asked.Start arguments = alone starts arguments
asked_form asked.Send arguments = send_form arguments
asked_form asked.Receive arguments = receive_form arguments
asked_form asked.Stats arguments = alone stats arguments
asked_form asked.Address arguments = address_form arguments

abbrev pub asked_by : Option RequestName → Arguments → Option Request
asked_by None arguments = None
asked_by (Some name) arguments = asked_form name arguments

-- a request, by its name
abbrev pub request_form : List ℕ → Arguments → Option Request
request_form name arguments = asked_by (request_named name) arguments
