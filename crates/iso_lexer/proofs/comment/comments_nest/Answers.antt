use Rattle.iso_lexer.proofs.Comments.{computed_comments}
use Rattle.iso_lexer.proofs.comment.comments_nest.Goals as goal

pub returns : goal.returns
returns c = computed_comments
