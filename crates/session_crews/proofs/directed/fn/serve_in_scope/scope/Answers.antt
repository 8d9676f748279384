use denote.Param.Send.{sendable}
use Rattle.session_crews.proofs.directed.fn.serve_in_scope.scope.Goals as goal

pub serve_in-requires-send-E : goal.serve_in-requires-send-E
serve_in-requires-send-E g c κs within = search sendable depth 60

pub serve_in-requires-send-S : goal.serve_in-requires-send-S
serve_in-requires-send-S g c κs within = search sendable depth 60

pub serve_in-requires-send-O : goal.serve_in-requires-send-O
serve_in-requires-send-O g c κs within = search sendable depth 60

pub serve_in-requires-send-D : goal.serve_in-requires-send-D
serve_in-requires-send-D g c κs within = search sendable depth 60
