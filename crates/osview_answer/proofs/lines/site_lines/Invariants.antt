use Rattle.std.proofs.Common.{◌≡◌, ◌++◌, drop, map}
use Rattle.os_code.specs.declared.site.Site.{Site}
use Rattle.osview_answer.proofs.lines.site_lines.Given as goal

-- those so far were found, and those of the rest come behind them
abbrev pub invariant-loop-site : goal.invariant-loop-site
invariant-loop-site l = l.lines.items ++ map (λ (s : Site). s.line) (drop l.site-index l.code.sites) ≡ map (λ (s : Site). s.line) l.code.sites
