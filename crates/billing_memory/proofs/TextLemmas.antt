-- What `jiff` prints of a date of these years.
use Rattle.std.proofs.Common.{◌≡◌, ℕ, pos, refl}
use Rattle.jiff.specs.Words.{date_text as jiff_text}
use Rattle.jiff_core.specs.declared.civil.date.Date.{Date}
use Rattle.calendar_model.specs.Texts.{date_text}

pub date_text_is : (d : Date) (year : ℕ) → d.year ≡ pos year → jiff_text d ≡ date_text year d.month d.day
date_text_is d year is = rw is refl
