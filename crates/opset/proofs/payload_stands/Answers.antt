use Rattle.opset.proofs.Extended.{payload_stands}
use Rattle.opset.proofs.payload_stands.Goals as goal

pub returns : goal.returns
returns c = payload_stands
