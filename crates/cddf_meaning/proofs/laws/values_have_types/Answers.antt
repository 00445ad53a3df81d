use Rattle.cddf_meaning.proofs.TypedValues.{value-agrees}
use Rattle.cddf_meaning.proofs.laws.values_have_types.Goals as goal

pub returns-clause-values : goal.returns-clause-values
returns-clause-values c = λ file e s turns f g h. (value-agrees file f e s g h turns).same

pub returns-clause-bits : goal.returns-clause-bits
returns-clause-bits c = λ file e s turns f g h. (value-agrees file f e s g h turns).int
