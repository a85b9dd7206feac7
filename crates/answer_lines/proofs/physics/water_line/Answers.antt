use Rattle.std.proofs.Common.{◌*◌, ap}
use Rattle.answer_lines.proofs.Waters.{water_text}
use Rattle.answer_lines.proofs.physics.water_line.Goals as goal

pub returns-clause-text : goal.returns-clause-text
returns-clause-text c =
    let kept = rw c.unwrap-water.ensures at c.new.ensures.kept in
    water_text c.args.state.p_kpa c.unwrap-water.result.p_kpa c.args.state.t_udeg _ c.volume.result.lo c.volume.result.hi c.enthalpy.result.lo c.enthalpy.result.hi _ _ _ _ c.ends_line.result.bytes kept (ap (λ k. 1000 * k) c.from-t_ndeg.ensures)
    c.volume.ensures.holds c.volume.ensures.closer c.enthalpy.ensures.holds c.enthalpy.ensures.closer
    c.volume_ends-v.ensures.lo c.volume_ends-v.ensures.hi c.enthalpy_ends-h.ensures.lo c.enthalpy_ends-h.ensures.hi c.ends_line.ensures.text
