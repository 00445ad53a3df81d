use Rattle.os_ast.proofs.Fits.{means-kinds, means-marks, means-made}
use Rattle.os_ast.proofs.laws.meaning_by_tokens.Goals as goal

pub returns-clause-kinds : goal.returns-clause-kinds
returns-clause-kinds c = means-kinds

pub returns-clause-marks : goal.returns-clause-marks
returns-clause-marks c = means-marks

pub returns-clause-only : goal.returns-clause-only
returns-clause-only c = means-made
