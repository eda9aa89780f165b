-- Loopback: whether what is sent comes back.
use Rattle.std.specs.Prelude.{◌/◌, ◌%◌, ◌^◌, ◌==◌, ◌&&◌, ◌||◌, not, Bool, slice_index}
use Rattle.em_step.specs.Arrival.{rctl}
use Rattle.em_step.specs.State.{State, is_adapter}

-- RCTL.LBM, bits 7:6, is not 0
abbrev pub mac_loops : State → Bool
mac_loops s = not (rctl s / 2 ^ 6 % 4 == 0)

-- bit 14 of the PHY's word 0, its control, is 1
abbrev pub phy_loops : State → Bool
phy_loops s = slice_index s.phy.words 0 / 2 ^ 14 % 2 == 1

-- frames that the second profile sends come back. Who carries the wire gives them back: the adapter itself does not
abbrev pub loops : State → Bool
loops s = is_adapter s.profile && (mac_loops s || phy_loops s)
