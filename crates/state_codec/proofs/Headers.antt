-- The parts of the header, one after another.
use Rattle.std.proofs.Common.{◌≡◌, ℕ, Bool, List, ◌++◌, Option, None, Some, Ok, Err, ◌∙◌, ap}
use Rattle.config_model.specs.Configuration.{Configuration, both}
use Rattle.platinum_model.specs.Element.{Element}
use Rattle.parts_model.specs.Place as model
use Rattle.memory_model.specs.Fields.{first_broken, unless_broken, zero_bytes}
use Rattle.memory_model.specs.Header.{are_calibrated, billing_fields, calibrated_fields, calibration_fields, configuration_of, constants_fields, constants_of, header_fields, header_in, identity_fields, measuring_fields}
use Rattle.state_codec.specs.Reading.{checked}
use Rattle.state_codec.specs.Header.{identity_of, measuring_of, billing_of, calibration_of}
use Rattle.state_codec.proofs.Checks.{first_broken-none, first_broken-some, checked-ok, checked-err}

-- the configuration of four parts
abbrev pub joined : ℕ × List ℕ × ℕ × ℕ → model.Place × ℕ × ℕ × ℕ → ℕ × ℕ × ℕ × ℕ → Option (Element × Element) → Configuration
joined a b c d = record {
  serial = a.0;
  maker = a.1;
  version = a.2;
  address = a.3;
  place = b.0;
  pressure_kpa = b.1;
  sensor_ohm = b.2;
  litres_per_pulse = b.3;
  energy_decimals = c.0;
  volume_decimals = c.1;
  set_month = c.2;
  opening_day = c.3;
  calibration = d;
}

module _ (bytes : List ℕ) where
  identity_passes : (a : ℕ × List ℕ × ℕ × ℕ) → checked identity_fields bytes (identity_of bytes) ≡ Ok a → first_broken header_fields bytes ≡ first_broken (measuring_fields ++ (billing_fields ++ (calibration_fields ++ zero_bytes 52 204))) bytes
  unfolding header_fields
  identity_passes a e =
      first_broken-none identity_fields (measuring_fields ++ (billing_fields ++ (calibration_fields ++ zero_bytes 52 204))) bytes (checked-ok _ _ a e).0

  measuring_passes : (b : model.Place × ℕ × ℕ × ℕ) → checked measuring_fields bytes (measuring_of bytes) ≡ Ok b → first_broken (measuring_fields ++ (billing_fields ++ (calibration_fields ++ zero_bytes 52 204))) bytes ≡ first_broken (billing_fields ++ (calibration_fields ++ zero_bytes 52 204)) bytes
  measuring_passes b e = first_broken-none measuring_fields (billing_fields ++ (calibration_fields ++ zero_bytes 52 204)) bytes (checked-ok _ _ b e).0

  billing_passes : (c : ℕ × ℕ × ℕ × ℕ) → checked billing_fields bytes (billing_of bytes) ≡ Ok c → first_broken (billing_fields ++ (calibration_fields ++ zero_bytes 52 204)) bytes ≡ first_broken (calibration_fields ++ zero_bytes 52 204) bytes
  billing_passes c e = first_broken-none billing_fields (calibration_fields ++ zero_bytes 52 204) bytes (checked-ok _ _ c e).0

  pub identity_fails : (at : ℕ) → checked identity_fields bytes (identity_of bytes) ≡ Err at → header_in bytes ≡ Err at
  unfolding header_in header_fields
  identity_fails at e =
      ap (λ broken. unless_broken broken (configuration_of bytes)) (first_broken-some identity_fields (measuring_fields ++ (billing_fields ++ (calibration_fields ++ zero_bytes 52 204))) bytes at (checked-err _ _ at e))

  pub measuring_fails : (a : ℕ × List ℕ × ℕ × ℕ) (at : ℕ) → checked identity_fields bytes (identity_of bytes) ≡ Ok a → checked measuring_fields bytes (measuring_of bytes) ≡ Err at → header_in bytes ≡ Err at
  unfolding header_in
  measuring_fails a at first e =
      ap (λ broken. unless_broken broken (configuration_of bytes)) (identity_passes a first ∙ first_broken-some measuring_fields (billing_fields ++ (calibration_fields ++ zero_bytes 52 204)) bytes at (checked-err _ _ at e))

  pub billing_fails : (a : ℕ × List ℕ × ℕ × ℕ) (b : model.Place × ℕ × ℕ × ℕ) (at : ℕ) → checked identity_fields bytes (identity_of bytes) ≡ Ok a → checked measuring_fields bytes (measuring_of bytes) ≡ Ok b → checked billing_fields bytes (billing_of bytes) ≡ Err at → header_in bytes ≡ Err at
  unfolding header_in
  billing_fails a b at first second e =
      ap (λ broken. unless_broken broken (configuration_of bytes)) (identity_passes a first ∙ measuring_passes b second ∙ first_broken-some billing_fields (calibration_fields ++ zero_bytes 52 204) bytes at (checked-err _ _ at e))

  calibration_passes : (d : Option (Element × Element)) → checked calibration_fields bytes (calibration_of bytes) ≡ Ok d → first_broken (calibration_fields ++ zero_bytes 52 204) bytes ≡ first_broken (zero_bytes 52 204) bytes
  calibration_passes d e = first_broken-none calibration_fields (zero_bytes 52 204) bytes (checked-ok _ _ d e).0

  pub calibration_fails : (a : ℕ × List ℕ × ℕ × ℕ) (b : model.Place × ℕ × ℕ × ℕ) (c : ℕ × ℕ × ℕ × ℕ) (at : ℕ) → checked identity_fields bytes (identity_of bytes) ≡ Ok a → checked measuring_fields bytes (measuring_of bytes) ≡ Ok b → checked billing_fields bytes (billing_of bytes) ≡ Ok c → checked calibration_fields bytes (calibration_of bytes) ≡ Err at → header_in bytes ≡ Err at
  unfolding header_in
  calibration_fails a b c at first second third e =
      ap (λ broken. unless_broken broken (configuration_of bytes)) (identity_passes a first ∙ measuring_passes b second ∙ billing_passes c third ∙ first_broken-some calibration_fields (zero_bytes 52 204) bytes at (checked-err _ _ at e))

  whole : (a : ℕ × List ℕ × ℕ × ℕ) (b : model.Place × ℕ × ℕ × ℕ) (c : ℕ × ℕ × ℕ × ℕ) (d : Option (Element × Element)) → checked identity_fields bytes (identity_of bytes) ≡ Ok a → checked measuring_fields bytes (measuring_of bytes) ≡ Ok b → checked billing_fields bytes (billing_of bytes) ≡ Ok c → checked calibration_fields bytes (calibration_of bytes) ≡ Ok d → first_broken header_fields bytes ≡ first_broken (zero_bytes 52 204) bytes
  whole a b c d first second third fourth = identity_passes a first ∙ measuring_passes b second ∙ billing_passes c third ∙ calibration_passes d fourth

  pub blank_fails : (a : ℕ × List ℕ × ℕ × ℕ) (b : model.Place × ℕ × ℕ × ℕ) (c : ℕ × ℕ × ℕ × ℕ) (d : Option (Element × Element)) (at : ℕ) → checked identity_fields bytes (identity_of bytes) ≡ Ok a → checked measuring_fields bytes (measuring_of bytes) ≡ Ok b → checked billing_fields bytes (billing_of bytes) ≡ Ok c → checked calibration_fields bytes (calibration_of bytes) ≡ Ok d → first_broken (zero_bytes 52 204) bytes ≡ Some at → header_in bytes ≡ Err at
  unfolding header_in
  blank_fails a b c d at first second third fourth e =
      ap (λ broken. unless_broken broken (configuration_of bytes)) (whole a b c d first second third fourth ∙ e)

  pub all_pass : (a : ℕ × List ℕ × ℕ × ℕ) (b : model.Place × ℕ × ℕ × ℕ) (c : ℕ × ℕ × ℕ × ℕ) (d : Option (Element × Element)) → checked identity_fields bytes (identity_of bytes) ≡ Ok a → checked measuring_fields bytes (measuring_of bytes) ≡ Ok b → checked billing_fields bytes (billing_of bytes) ≡ Ok c → checked calibration_fields bytes (calibration_of bytes) ≡ Ok d → first_broken (zero_bytes 52 204) bytes ≡ None → header_in bytes ≡ Ok (joined a b c d)
  unfolding header_in configuration_of
  all_pass a b c d first second third fourth e =
      ap (λ broken. unless_broken broken (configuration_of bytes)) (whole a b c d first second third fourth ∙ e)
      ∙ (λ i. Ok (joined ((checked-ok _ _ a first).1 i) ((checked-ok _ _ b second).1 i) ((checked-ok _ _ c third).1 i) ((checked-ok _ _ d fourth).1 i)))

  -- ---- the constants, one sensor after the other

  pub flag_fails : (at : ℕ) → checked calibrated_fields bytes (are_calibrated bytes) ≡ Err at → checked calibration_fields bytes (calibration_of bytes) ≡ Err at
  flag_fails at e =
      ap (λ broken. unless_broken broken (calibration_of bytes)) (first_broken-some calibrated_fields (constants_fields 28 ++ constants_fields 40) bytes at (checked-err _ _ at e))

  flag_passes : (b : Bool) → checked calibrated_fields bytes (are_calibrated bytes) ≡ Ok b → first_broken calibration_fields bytes ≡ first_broken (constants_fields 28 ++ constants_fields 40) bytes
  flag_passes b e = first_broken-none calibrated_fields (constants_fields 28 ++ constants_fields 40) bytes (checked-ok _ _ b e).0

  flow_passes : (f : Option Element) → checked (constants_fields 28) bytes (constants_of 28 bytes) ≡ Ok f → first_broken (constants_fields 28 ++ constants_fields 40) bytes ≡ first_broken (constants_fields 40) bytes
  flow_passes f e = first_broken-none (constants_fields 28) (constants_fields 40) bytes (checked-ok _ _ f e).0

  pub flow_fails : (b : Bool) (at : ℕ) → checked calibrated_fields bytes (are_calibrated bytes) ≡ Ok b → checked (constants_fields 28) bytes (constants_of 28 bytes) ≡ Err at → checked calibration_fields bytes (calibration_of bytes) ≡ Err at
  flow_fails b at first e =
      ap (λ broken. unless_broken broken (calibration_of bytes)) (flag_passes b first ∙ first_broken-some (constants_fields 28) (constants_fields 40) bytes at (checked-err _ _ at e))

  pub ret_fails : (b : Bool) (f : Option Element) (at : ℕ) → checked calibrated_fields bytes (are_calibrated bytes) ≡ Ok b → checked (constants_fields 28) bytes (constants_of 28 bytes) ≡ Ok f → checked (constants_fields 40) bytes (constants_of 40 bytes) ≡ Err at → checked calibration_fields bytes (calibration_of bytes) ≡ Err at
  ret_fails b f at first second e =
      ap (λ broken. unless_broken broken (calibration_of bytes)) (flag_passes b first ∙ flow_passes f second ∙ checked-err _ _ at e)

  pub constants_pass : (b : Bool) (f r : Option Element) → checked calibrated_fields bytes (are_calibrated bytes) ≡ Ok b → checked (constants_fields 28) bytes (constants_of 28 bytes) ≡ Ok f → checked (constants_fields 40) bytes (constants_of 40 bytes) ≡ Ok r → checked calibration_fields bytes (calibration_of bytes) ≡ Ok (both f r)
  constants_pass b f r first second third =
      ap (λ broken. unless_broken broken (calibration_of bytes)) (flag_passes b first ∙ flow_passes f second ∙ (checked-ok _ _ r third).0)
      ∙ (λ i. Ok (both ((checked-ok _ _ f second).1 i) ((checked-ok _ _ r third).1 i)))
