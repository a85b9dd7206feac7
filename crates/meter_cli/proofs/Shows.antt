-- What `show` and `slots` answer by what the memory holds.
use Rattle.std.proofs.Common.{◌≡◌, ◌⊎◌, inl, inr, ℕ, List, sym, ap, subst}
use Rattle.trace_model.specs.Trace.{Trace, base_of}
use Rattle.trace_model.specs.Output.{PutsAlone}
use Rattle.meter_cli.specs.Show.{ArePut, LookLeaves}
use Rattle.meter_cli.proofs.Lines.{alone_lines, lines_base}
use Rattle.meter_cli.specs.declared.status.Status.{Status}
use Rattle.meter_cli.specs.declared.status.Status.TheVariants.{Done, Usage, Config, Line, Memory, Read, Write, Unformatted, Foreign, Formatted, OutOfMemory, Cut, NotRising, BadReadout}

module _ (Are : List (List ℕ) → Type 0) (IsUnformatted IsForeign : ℕ → Type 0) (old new : Trace) where
  pub looks_alone : (status : Status) → LookLeaves Are IsUnformatted IsForeign old new status → PutsAlone old → PutsAlone new
  looks_alone Done l alone = alone_lines l.lines old new Done l.puts alone
  looks_alone (Usage word) l alone = absurd l
  looks_alone (Config fault) l alone = absurd l
  looks_alone (Line n kind) l alone = absurd l
  looks_alone Memory l alone = subst PutsAlone (sym l) alone
  looks_alone Read l alone = absurd l
  looks_alone Write l alone = alone_lines l.lines old new Write l.puts alone
  looks_alone (Unformatted byte) l alone = subst PutsAlone (sym l.1) alone
  looks_alone (Foreign at) l alone = subst PutsAlone (sym l.1) alone
  looks_alone Formatted l alone = absurd l
  looks_alone OutOfMemory l alone = absurd l
  looks_alone Cut l alone = absurd l
  looks_alone (NotRising segment) l alone = absurd l
  looks_alone (BadReadout at) l alone = absurd l

  pub looks_base : (status : Status) → LookLeaves Are IsUnformatted IsForeign old new status → base_of new ≡ base_of old
  looks_base Done l = lines_base l.lines old new Done l.puts
  looks_base (Usage word) l = absurd l
  looks_base (Config fault) l = absurd l
  looks_base (Line n kind) l = absurd l
  looks_base Memory l = ap base_of l
  looks_base Read l = absurd l
  looks_base Write l = lines_base l.lines old new Write l.puts
  looks_base (Unformatted byte) l = ap base_of l.1
  looks_base (Foreign at) l = ap base_of l.1
  looks_base Formatted l = absurd l
  looks_base OutOfMemory l = absurd l
  looks_base Cut l = absurd l
  looks_base (NotRising segment) l = absurd l
  looks_base (BadReadout at) l = absurd l

  pub looks_status : (status : Status) → (status ≡ Done) ⊎ (status ≡ Write) → ArePut Are old new status → LookLeaves Are IsUnformatted IsForeign old new status
  looks_status status (inl is) s = subst (LookLeaves Are IsUnformatted IsForeign old new) (sym is) (subst (ArePut Are old new) is s)
  looks_status status (inr is) s = subst (LookLeaves Are IsUnformatted IsForeign old new) (sym is) (subst (ArePut Are old new) is s)
