use Rattle.program_words.proofs.Serving.{either_stays}
use Rattle.permutations.proofs.program.run_file.Goals as goal

pub returns : goal.returns
returns g c = record {
  answer = c.run-answer.result;
  noted = g.N.Sink.put_so_far c.run-answer.new.err;
  runs = c.run-answer.ensures.runs;
  told = c.end.ensures.told;
  ends = c.end.ensures.status;
  read = c.run-answer.ensures.read;
  write = λ is. either_stays (g.W.Sink.failed c.run-answer.new.out) (g.N.Sink.failed c.run-answer.new.err) (g.N.Sink.failed c.end.new.err) c.end.ensures.stays (c.run-answer.ensures.write is);
}
