-- The commands that are answered by one line.
use Rattle.std.specs.Prelude.{◌≡◌, ℕ, List}
use Rattle.trace_model.specs.Trace.{Trace}
use Rattle.meter_parts.specs.Views.{place_view}
use Rattle.answer_lines.specs.Bench.{IsCalcText, IsPairText, flow_text}
use Rattle.answer_lines.specs.Coef.{IsCoefText}
use Rattle.meter_cli.specs.Gen.{IsGenText}
use Rattle.meter_cli.specs.Puts.{PutsLine}
use Rattle.answer_lines.specs.Temp.{IsTempText, element_of}
use Rattle.answer_lines.specs.Water.{IsWaterText}
use Rattle.command_words.specs.declared.job.Query.{Query}
use Rattle.command_words.specs.declared.job.Query.TheVariants.{Temp, Water, Coef, BenchCalc, BenchPair, BenchFlow, Gen}
use Rattle.meter_cli.specs.declared.status.Status.{Status}

-- the line that answers each
abbrev pub IsAnswer : Query → List ℕ → Type 0
IsAnswer (Temp sample) text = IsTempText (element_of sample.sensor) sample.r text
IsAnswer (Water state) text = IsWaterText state.p_kpa state.t_udeg text
IsAnswer (Coef k) text = IsCoefText (place_view k.place) k.p_kpa k.tf_udeg k.tr_udeg text
IsAnswer (BenchCalc test) text = IsCalcText test text
IsAnswer (BenchPair test) text = IsPairText test text
IsAnswer (BenchFlow test) text = text ≡ flow_text test
IsAnswer (Gen load) text = IsGenText load.seed load.count text

-- what each leaves
pub record AnswerLeaves (query : Query) (old new : Trace) (status : Status) : Type 0 where
  pub text : List ℕ
  pub is : IsAnswer query text
  pub puts : PutsLine text old new status
