-- The words of the command line.
use Rattle.std.specs.Prelude.{◌≡◌, ◌≤◌, ◌+◌, ◌-◌, ℕ, Bool, List, [], ◌∷◌, cond, nat_eq, nat_le, codes, map, Option, Some, None, Result, Ok, Err, MatchResult}
use Rattle.std.specs.Cmp.Lexicographic.{pointwise}
use Rattle.std.specs.Borrow.{Bor}
use Rattle.parts_model.specs.Ranges.{max_pressure_kpa, min_pressure_kpa}
use Rattle.bench_model.specs.Ranges.{IsCalculator, IsFlowSensor, IsSensorPair, last_class, max_energy, max_flow, max_litres, max_volume}
use Rattle.platinum_model.specs.Element.{max_udeg}
use Rattle.script_model.specs.Numbers.{number_in}
use Rattle.script_model.specs.Grammar.{◌>>=◌, word_at, end_at, max_sample}
use Rattle.meter_parts.specs.declared.sensor.Sensor.{Sensor}
use Rattle.meter_parts.specs.declared.sensor.Sensor.TheVariants.{Pt100, Pt500, Pt1000}
use Rattle.meter_parts.specs.declared.place.Place.{Place}
use Rattle.meter_parts.specs.declared.place.Place.TheVariants.{Flow, Return}
use Rattle.command_words.specs.declared.job.Job.{Job}
use Rattle.command_words.specs.declared.job.Job.TheVariants.{Init, Run, Dry, Show, Slots, Ask, Cert, ReadMbus, ReadOptical}
use Rattle.command_words.specs.declared.job.Query.{Query}
use Rattle.command_words.specs.declared.job.Query.TheVariants.{Temp, Water, Coef, BenchCalc, BenchPair, BenchFlow, Gen}
use Rattle.command_words.specs.declared.job.WaterState.{WaterState}
use Rattle.command_words.specs.declared.job.HeatCoefficient.{HeatCoefficient}
use Rattle.command_words.specs.declared.job.CalculatorTest.{CalculatorTest}
use Rattle.command_words.specs.declared.job.PairTest.{PairTest}
use Rattle.command_words.specs.declared.job.FlowTest.{FlowTest}
use Rattle.command_words.specs.declared.job.Load.{Load}
use Rattle.command_words.specs.declared.job.Usage.{Usage}

-- the word is this text
abbrev pub is_text : List ℕ → List ℕ → Bool
is_text text word = pointwise nat_eq word text

-- the sensor with so many ohms at 0 °C
abbrev pub sensor_of : List ℕ → Option Sensor
sensor_of word = cond (is_text (codes "100") word) (Some Pt100) (cond (is_text (codes "500") word) (Some Pt500) (cond (is_text (codes "1000") word) (Some Pt1000) None))

-- the least difference of flow and return that counts, in microdegrees
abbrev pub min_difference : ℕ
min_difference = 10000

-- the greatest number that generates events, and the most of them
abbrev pub max_seed : ℕ
max_seed = 18446744073709551615

abbrev pub max_generated : ℕ
max_generated = 1000000

-- the number is at least so much below another
abbrev pub below_in : (least most : ℕ) → List ℕ → Option ℕ
below_in least most word = cond (nat_le least most) (number_in 0 (most - least) word) None

-- a pressure in kPa
abbrev pub pressure_of : List ℕ → Option ℕ
pressure_of = number_in min_pressure_kpa max_pressure_kpa

-- a temperature in microdegrees Celsius
abbrev pub temperature_of : List ℕ → Option ℕ
temperature_of = number_in 0 max_udeg

-- the least difference of a calculator or a pair of sensors, in microdegrees
abbrev pub least_difference_of : List ℕ → Option ℕ
least_difference_of = number_in 1 max_udeg

-- a sample in microohms
abbrev pub sample_of : List ℕ → Option ℕ
sample_of = number_in 0 max_sample

-- the pipe in which the flow sensor sits
abbrev pub place_of : List ℕ → Option Place
place_of word = cond (is_text (codes "flow") word) (Some Flow) (cond (is_text (codes "return") word) (Some Return) None)

-- `temp R0 R`
abbrev pub temp_words : List (List ℕ) → Result Job ℕ
temp_words words = word_at 1 sensor_of words >>= λ sensor. word_at 2 sample_of sensor.1 >>= λ r. end_at 3 (Ask (Temp (record { sensor = sensor.0; r = r.0 }))) r.1

-- `water P T`
abbrev pub water_words : List (List ℕ) → Result Job ℕ
water_words words = word_at 1 pressure_of words >>= λ p. word_at 2 temperature_of p.1 >>= λ t. end_at 3 (Ask (Water (record { p_kpa = p.0; t_udeg = t.0 }))) t.1

-- `k PLACE P TF TR`, with a return that counts
abbrev pub coef_words : List (List ℕ) → Result Job ℕ
coef_words words =
    word_at 1 place_of words >>= λ place. word_at 2 pressure_of place.1 >>= λ p. word_at 3 temperature_of p.1 >>= λ tf. word_at 4 (below_in min_difference tf.0) tf.1 >>= λ tr. end_at 5 (Ask (Coef (record { place = place.0; p_kpa = p.0; tf_udeg = tf.0; tr_udeg = tr.0 }))) tr.1

-- `bench calc SENSOR PLACE P DMIN RF RR LITRES ENERGY`
abbrev pub calc_words : List (List ℕ) → Result Job ℕ
calc_words words =
    word_at 2 sensor_of words >>= λ sensor. word_at 3 place_of sensor.1 >>= λ place. word_at 4 pressure_of place.1 >>= λ p. word_at 5 least_difference_of p.1 >>= λ dmin. word_at 6 sample_of dmin.1 >>= λ rf. word_at 7 sample_of rf.1 >>= λ rr. word_at 8 (number_in 1 max_litres) rr.1 >>= λ litres. word_at 9 (number_in 0 max_energy) litres.1 >>= λ energy. end_at 10 (Ask (BenchCalc (record { sensor = sensor.0; place = place.0; p_kpa = p.0; dmin_udeg = dmin.0; rf = rf.0; rr = rr.0; litres = litres.0; energy_mj = energy.0 }))) energy.1

-- `bench pair SENSOR DMIN TF TR RF RR`, with a return that is colder
abbrev pub pair_words : List (List ℕ) → Result Job ℕ
pair_words words =
    word_at 2 sensor_of words >>= λ sensor. word_at 3 least_difference_of sensor.1 >>= λ dmin. word_at 4 temperature_of dmin.1 >>= λ tf. word_at 5 (below_in 1 tf.0) tf.1 >>= λ tr. word_at 6 sample_of tr.1 >>= λ rf. word_at 7 sample_of rf.1 >>= λ rr. end_at 8 (Ask (BenchPair (record { sensor = sensor.0; dmin_udeg = dmin.0; tf_udeg = tf.0; tr_udeg = tr.0; rf = rf.0; rr = rr.0 }))) rr.1

-- `bench flow CLASS QP Q REF IND`, with flows in one unit
abbrev pub flow_words : List (List ℕ) → Result Job ℕ
flow_words words =
    word_at 2 (number_in 1 last_class) words >>= λ class. word_at 3 (number_in 1 max_flow) class.1 >>= λ qp. word_at 4 (number_in 1 max_flow) qp.1 >>= λ q. word_at 5 (number_in 1 max_volume) q.1 >>= λ reference. word_at 6 (number_in 0 max_volume) reference.1 >>= λ indicated. end_at 7 (Ask (BenchFlow (record { class = class.0; qp = qp.0; q = q.0; reference = reference.0; indicated = indicated.0 }))) indicated.1

-- the words after `bench`
abbrev pub bench_words : List (List ℕ) → Result Job ℕ
bench_words [] = Err 1
bench_words (kind ∷ words) = cond (is_text (codes "calc") kind) (calc_words words) (cond (is_text (codes "pair") kind) (pair_words words) (cond (is_text (codes "flow") kind) (flow_words words) (Err 1)))

-- `gen SEED COUNT`
abbrev pub gen_words : List (List ℕ) → Result Job ℕ
gen_words words = word_at 1 (number_in 0 max_seed) words >>= λ seed. word_at 2 (number_in 1 max_generated) seed.1 >>= λ count. end_at 3 (Ask (Gen (record { seed = seed.0; count = count.0 }))) count.1

-- `cert P`
abbrev pub cert_words : List (List ℕ) → Result Job ℕ
cert_words words = word_at 1 pressure_of words >>= λ p. end_at 2 (Cert p.0) p.1

-- the words after `read`
abbrev pub read_words : List (List ℕ) → Result Job ℕ
read_words [] = Err 1
read_words (kind ∷ words) = cond (is_text (codes "mbus") kind) (end_at 2 ReadMbus words) (cond (is_text (codes "optical") kind) (end_at 2 ReadOptical words) (Err 1))

-- the command that words say, or the place of the first wrong, missing or extra word, from 0
abbrev pub command_of : List (List ℕ) → Result Job ℕ
command_of [] = Err 0
command_of (name ∷ words) = cond (is_text (codes "init") name) (end_at 1 Init words) (cond (is_text (codes "run") name) (end_at 1 Run words) (cond (is_text (codes "dry") name) (end_at 1 Dry words) (cond (is_text (codes "show") name) (end_at 1 Show words) (cond (is_text (codes "slots") name) (end_at 1 Slots words) (cond (is_text (codes "temp") name) (temp_words words) (cond (is_text (codes "water") name) (water_words words) (cond (is_text (codes "k") name) (coef_words words) (cond (is_text (codes "bench") name) (bench_words words) (cond (is_text (codes "gen") name) (gen_words words) (cond (is_text (codes "cert") name) (cert_words words) (cond (is_text (codes "read") name) (read_words words) (Err 0))))))))))))

-- the texts of the words
abbrev pub texts : List (Bor (List ℕ)) → List (List ℕ)
texts words = map (λ w. w.now) words

-- what was read is what the definition says, and so is the place of the first wrong word
abbrev pub Says : Result Job Usage → Result Job ℕ → Type 0
Says result said = MatchResult result (λ job. said ≡ Ok job) (λ e. said ≡ Err e.word)

-- so it is with one word and those after it
abbrev pub SaysWord : {A : Type 0} → Result (A × Bor (List (Bor (List ℕ)))) Usage → Result (A × List (List ℕ)) ℕ → Type 0
SaysWord result said = MatchResult result (λ r. said ≡ Ok (r.0, texts r.1.now)) (λ e. said ≡ Err e.word)

abbrev pub IsPressure : ℕ → Type 0
IsPressure p = (min_pressure_kpa ≤ p) × (p ≤ max_pressure_kpa)

abbrev pub IsWaterState : WaterState → Type 0
IsWaterState state = IsPressure state.p_kpa × (state.t_udeg ≤ max_udeg)

abbrev pub IsHeatCoefficient : HeatCoefficient → Type 0
IsHeatCoefficient k = IsPressure k.p_kpa × (k.tr_udeg + min_difference ≤ k.tf_udeg) × (k.tf_udeg ≤ max_udeg)

abbrev pub IsCalculatorTest : CalculatorTest → Type 0
IsCalculatorTest test = IsPressure test.p_kpa × IsCalculator test.dmin_udeg test.litres test.energy_mj

abbrev pub IsPairTest : PairTest → Type 0
IsPairTest test = IsSensorPair test.dmin_udeg test.tf_udeg test.tr_udeg

abbrev pub IsFlowTest : FlowTest → Type 0
IsFlowTest test = IsFlowSensor test.class test.qp test.q test.reference test.indicated

abbrev pub IsLoad : Load → Type 0
IsLoad load = (1 ≤ load.count) × (load.count ≤ max_generated)

-- the numbers of a command are in their ranges
abbrev pub IsQuery : Query → Type 0
IsQuery (Temp sample) = Unit {0}
IsQuery (Water state) = IsWaterState state
IsQuery (Coef k) = IsHeatCoefficient k
IsQuery (BenchCalc test) = IsCalculatorTest test
IsQuery (BenchPair test) = IsPairTest test
IsQuery (BenchFlow test) = IsFlowTest test
IsQuery (Gen load) = IsLoad load

abbrev pub IsInRange : Job → Type 0
IsInRange Init = Unit {0}
IsInRange Run = Unit {0}
IsInRange Dry = Unit {0}
IsInRange Show = Unit {0}
IsInRange Slots = Unit {0}
IsInRange (Ask query) = IsQuery query
IsInRange (Cert p) = IsPressure p
IsInRange ReadMbus = Unit {0}
IsInRange ReadOptical = Unit {0}

-- a command that reads nothing
abbrev pub ReadsNothing : Job → Type 0
ReadsNothing Init = ⊥
ReadsNothing Run = ⊥
ReadsNothing Dry = ⊥
ReadsNothing Show = Unit {0}
ReadsNothing Slots = Unit {0}
ReadsNothing (Ask query) = Unit {0}
ReadsNothing (Cert p) = Unit {0}
ReadsNothing ReadMbus = ⊥
ReadsNothing ReadOptical = ⊥

-- a command that makes no call on the memory
abbrev pub UsesNoMemory : Job → Type 0
UsesNoMemory Init = ⊥
UsesNoMemory Run = ⊥
UsesNoMemory Dry = Unit {0}
UsesNoMemory Show = ⊥
UsesNoMemory Slots = ⊥
UsesNoMemory (Ask query) = Unit {0}
UsesNoMemory (Cert p) = Unit {0}
UsesNoMemory ReadMbus = Unit {0}
UsesNoMemory ReadOptical = Unit {0}

-- the words begin with this one, where there is one
abbrev pub BeginsWith : List (List ℕ) → Option (Bor (List ℕ) × Bor (List (Bor (List ℕ)))) → Type 0
BeginsWith words None = words ≡ []
BeginsWith words (Some split) = words ≡ split.0.now ∷ texts split.1.now
