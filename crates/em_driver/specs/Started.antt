-- What a start leads to: a device as its driver keeps it, from the write of CTRL with RST on.
use Rattle.std.specs.Prelude.{◌≡◌, ℕ, ◌+◌, List, [], ◌++◌, None}
use Rattle.em_driver.specs.Course.{done, Follows}
use Rattle.em_driver.specs.Order.{IsUndisturbed, queued, waiting}
use Rattle.em_driver.specs.Start.{after_reset, until_reset}
use Rattle.em_driver.specs.World.{World, present}
use Rattle.em_driver.specs.declared.layout.Layout.{Layout}

-- From one world to another a driver with this layout was started, with so many events: nothing is queued, and the
-- frames that were stored since the reset wait, in order.
pub record StartsInOrder (l : Layout) (w : World) (events : ℕ) (v : World) : Type 0 where
  -- its second event, the write of CTRL with RST, led to this world, and the others from there on
  pub reset : World
  pub others : ℕ
  pub is_reset : Follows w (until_reset (done None)) 2 None reset
  pub follows : Follows reset (after_reset l) others None v
  pub counted : events ≡ 2 + others
  -- the frames that were stored since then
  pub stored : List (List ℕ)
  pub is_stored : v.stored ≡ reset.stored ++ stored
  pub undisturbed : IsUndisturbed l v
  pub queued : queued l (present v) ≡ []
  pub waiting : waiting l (present v) ≡ stored
  -- and none was sent
  pub wire : (present v).wire ≡ (present reset).wire
