-- Where the flow sensor of a meter sits.

-- the pipe in which the flow sensor sits
pub data Place : Type 0 where
  Flow : Place
  Return : Place
