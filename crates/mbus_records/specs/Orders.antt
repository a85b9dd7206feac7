-- What a frame is that asks something of the meter.
use Rattle.std.specs.Prelude.{◌≡◌, ℕ, true, false, Option, None, Some}
use Rattle.config_model.specs.Configuration.{Configuration}
use Rattle.frame_model.specs.Frames.{Frame, Ack}
use Rattle.slave_model.specs.Heard.{is_reset, is_request, control_of}
use Rattle.slave_model.specs.Replies.{reset_reply}
use Rattle.mbus_records.specs.declared.order.Order.{Order}
use Rattle.mbus_records.specs.declared.order.Order.TheVariants.{Reset, ResetOfAll, Request, Nothing}

-- a reset with this reply
pub record IsResetWith (c : Configuration) (f : Frame) (answer : Option Frame) : Type 0 where
  pub reset : is_reset c f ≡ true
  pub other : is_request c f ≡ false
  pub reply : reset_reply f ≡ answer

-- a request with this control field
pub record IsRequestWith (c : Configuration) (f : Frame) (field : ℕ) : Type 0 where
  pub request : is_request c f ≡ true
  pub other : is_reset c f ≡ false
  pub control : control_of f ≡ Some field

-- neither
pub record IsNeither (c : Configuration) (f : Frame) : Type 0 where
  pub reset : is_reset c f ≡ false
  pub request : is_request c f ≡ false

abbrev pub Orders : Configuration → Frame → Order → Type 0
Orders c f Reset = IsResetWith c f (Some Ack)
Orders c f ResetOfAll = IsResetWith c f None
Orders c f (Request control) = IsRequestWith c f control
Orders c f Nothing = IsNeither c f
