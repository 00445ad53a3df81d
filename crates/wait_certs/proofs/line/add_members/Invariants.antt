use Rattle.std.proofs.Common.{◌≡◌, ◌++◌, drop}
use Rattle.std.specs.Prelude.{string_bytes}
use Rattle.std.specs.List.{flat_map}
use Rattle.os_io.specs.Lines.{field}
use Rattle.wait_certs.proofs.line.add_members.Given as goal

-- with the members to come, the text has all
abbrev pub invariant-loop-member : goal.invariant-loop-member
invariant-loop-member l =
    string_bytes l.text ++ flat_map field (drop l.member-index l.members) ≡ string_bytes l.initial.text ++ flat_map field l.members
