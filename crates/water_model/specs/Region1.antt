-- The coefficients of region 1 of IAPWS-IF97, as published (table 2 of the release).
use Rattle.std.specs.Prelude.{ℕ, ℤ, pos, List, [], ◌∷◌}
use Rattle.water_model.specs.Decimal.{minus}

-- a row of the table: its number, the exponents I and J, and the coefficient n = mantissa * 10^exp10
pub record Row : Type 0 where
  pub number : ℕ
  pub i : ℕ
  pub j : ℤ
  pub mantissa : ℤ
  pub exp10 : ℤ

abbrev pub row : ℕ → ℕ → ℤ → ℤ → ℤ → Row
row number i j mantissa exp10 = record { number = number; i = i; j = j; mantissa = mantissa; exp10 = exp10 }

unfoldable pub region1 : List Row
region1 =
    row 1 0 (minus 2) (pos 14632971213167) (minus 14) ∷
    row 2 0 (minus 1) (minus 84548187169114) (minus 14) ∷
    row 3 0 (pos 0) (minus 37563603672040) (minus 13) ∷
    row 4 0 (pos 1) (pos 33855169168385) (minus 13) ∷
    row 5 0 (pos 2) (minus 95791963387872) (minus 14) ∷
    row 6 0 (pos 3) (pos 15772038513228) (minus 14) ∷
    row 7 0 (pos 4) (minus 16616417199501) (minus 15) ∷
    row 8 0 (pos 5) (pos 81214629983568) (minus 17) ∷
    row 9 1 (minus 9) (pos 28319080123804) (minus 17) ∷
    row 10 1 (minus 7) (minus 60706301565874) (minus 17) ∷
    row 11 1 (minus 1) (minus 18990068218419) (minus 15) ∷
    row 12 1 (pos 0) (minus 32529748770505) (minus 15) ∷
    row 13 1 (pos 1) (minus 21841717175414) (minus 15) ∷
    row 14 1 (pos 3) (minus 52838357969930) (minus 18) ∷
    row 15 2 (minus 3) (minus 47184321073267) (minus 17) ∷
    row 16 2 (pos 0) (minus 30001780793026) (minus 17) ∷
    row 17 2 (pos 1) (pos 47661393906987) (minus 18) ∷
    row 18 2 (pos 3) (minus 44141845330846) (minus 19) ∷
    row 19 2 (pos 17) (minus 72694996297594) (minus 29) ∷
    row 20 3 (minus 4) (minus 31679644845054) (minus 18) ∷
    row 21 3 (pos 0) (minus 28270797985312) (minus 19) ∷
    row 22 3 (pos 6) (minus 85205128120103) (minus 23) ∷
    row 23 4 (minus 5) (minus 22425281908000) (minus 19) ∷
    row 24 4 (minus 2) (minus 65171222895601) (minus 20) ∷
    row 25 4 (pos 10) (minus 14341729937924) (minus 26) ∷
    row 26 5 (minus 8) (minus 40516996860117) (minus 20) ∷
    row 27 8 (minus 11) (minus 12734301741641) (minus 22) ∷
    row 28 8 (minus 6) (minus 17424871230634) (minus 23) ∷
    row 29 21 (minus 29) (minus 68762131295531) (minus 32) ∷
    row 30 23 (minus 31) (pos 14478307828521) (minus 33) ∷
    row 31 29 (minus 38) (pos 26335781662795) (minus 36) ∷
    row 32 30 (minus 39) (minus 11947622640071) (minus 36) ∷
    row 33 31 (minus 40) (pos 18228094581404) (minus 37) ∷
    row 34 32 (minus 41) (minus 93537087292458) (minus 39) ∷
    []
