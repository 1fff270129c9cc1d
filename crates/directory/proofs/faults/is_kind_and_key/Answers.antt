-- By the kind: each has its own bound of the highest key.
use Rattle.directory.specs.Faults.{map-key, register-key, no_kind}
use Rattle.directory.proofs.faults.is_kind_and_key.Goals as goal

pub returns-then-kind-eq-MAP : goal.returns-then-kind-eq-MAP
returns-then-kind-eq-MAP c = let a = c.args in map-key a.kind a.highest c.if-kind-eq-MAP.true

pub returns-then-kind-eq-REGISTER : goal.returns-then-kind-eq-REGISTER
returns-then-kind-eq-REGISTER c = let a = c.args in register-key a.kind a.highest c.if-kind-eq-REGISTER.true

pub returns : goal.returns
returns c = let a = c.args in no_kind a.kind a.highest c.if-kind-eq-MAP.false c.if-kind-eq-REGISTER.false
