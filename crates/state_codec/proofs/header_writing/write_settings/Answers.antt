use Rattle.std.proofs.Common.{◌≡◌, ◌∙◌, ◌++◌, ◌+◌, ap, ℕ, List, length, drop, arith, rules}
use Rattle.std.specs.Prelude.{replicate}
use Rattle.std.proofs.lemmas.List.{append-nil}
use Rattle.config_model.specs.Configuration.{Configuration}
use Rattle.meter_config.specs.Views.{config_view}
use Rattle.state_codec.specs.Header.{identity_bytes, measuring_bytes, billing_bytes, settings_bytes}
use Rattle.state_codec.proofs.header_writing.write_settings.Goals as goal

laid_out : (k : Configuration) (out first second third : List ℕ) → first ≡ identity_bytes k → second ≡ measuring_bytes k → third ≡ billing_bytes k → length first ≡ 10 → length second ≡ 7 → length third ≡ 6
    → out ≡ first ++ (second ++ (third ++ drop (length first + length second + length third) (replicate 23 0))) → out ≡ settings_bytes k
unfolding settings_bytes
laid_out k out first second third a b d one two six is =
    let size : length first + length second + length third ≡ 23 = omega arith in
    is ∙ (λ i. a i ++ (b i ++ (d i ++ drop (size i) (replicate 23 0)))) ∙ ap (λ (l : List ℕ). identity_bytes k ++ (measuring_bytes k ++ l)) (append-nil (billing_bytes k))

pub returns : goal.returns
returns c =
    let ten : length c.write_identity.result ≡ 10 = search rules in
    let seven : length c.write_measuring.result ≡ 7 = search rules in
    let six : length c.write_billing.result ≡ 6 = search rules in
    laid_out (config_view c.args.c.now) c.fill_front.new.out c.write_identity.result c.write_measuring.result c.write_billing.result c.write_identity.ensures c.write_measuring.ensures c.write_billing.ensures ten seven six c.fill_front.ensures
