use Rattle.osparts_parts.proofs.Stay.{given_stay}
use Rattle.osparts_parts.proofs.laws.given_parts_stay.Goals as goal

pub returns : goal.returns
returns c = λ pushed more parts h. given_stay c.args.buffer.now.terms c.args.buffer.now.place c.args.buffer.now.bytes.items pushed more parts h
