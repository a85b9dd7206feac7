-- Constants that fit a sensor of one kind.
use Rattle.std.proofs.Common.{◌≡◌, Bool, true, false, ◌||◌, refl}
use Rattle.platinum_model.specs.Element.{Element}
use Rattle.platinum_model.specs.Calibration.{fits, fits_a_sensor}

first_of : (a b c : Bool) → a ≡ true → (a || b || c) ≡ true
first_of true b c h = refl
first_of false b c h = absurd cc

second_of : (a b c : Bool) → b ≡ true → (a || b || c) ≡ true
second_of true b c h = refl
second_of false true c h = refl
second_of false false c h = absurd cc

third_of : (a b c : Bool) → c ≡ true → (a || b || c) ≡ true
third_of true b c h = refl
third_of false true c h = refl
third_of false false c h = h

pub fits_pt100 : (e : Element) → fits e 100000000 ≡ true → fits_a_sensor e ≡ true
fits_pt100 e h = first_of (fits e 100000000) (fits e 500000000) (fits e 1000000000) h

pub fits_pt500 : (e : Element) → fits e 500000000 ≡ true → fits_a_sensor e ≡ true
fits_pt500 e h = second_of (fits e 100000000) (fits e 500000000) (fits e 1000000000) h

pub fits_pt1000 : (e : Element) → fits e 1000000000 ≡ true → fits_a_sensor e ≡ true
fits_pt1000 e h = third_of (fits e 100000000) (fits e 500000000) (fits e 1000000000) h
