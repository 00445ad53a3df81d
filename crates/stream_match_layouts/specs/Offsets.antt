-- Where the windows of an activation lie among its inputs and outputs: behind those before them.
use Rattle.std.specs.Prelude.{ℕ, ◌+◌, if◌then◌else◌}
use Rattle.flow_core_laws.specs.declared.claim.Claim.{Claim}
use Rattle.stream_match_layouts.specs.declared.offsets.Offsets.{Offsets}

-- where the window of a claim lies by the offsets: a write claim's among the outputs, another one's among the inputs
abbrev pub offset_by : Offsets → Claim → ℕ
offset_by offsets claim = if claim.write then offsets.outputs else offsets.inputs

-- the offsets behind a claim
abbrev pub offsets_behind : Offsets → Claim → Offsets
offsets_behind offsets claim = record {
  inputs = if claim.write then offsets.inputs else offsets.inputs + claim.horizon;
  outputs = if claim.write then offsets.outputs + claim.horizon else offsets.outputs;
}
