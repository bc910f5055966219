use Rattle.method_parse.proofs.NameTokens.{spelled_name}
use Rattle.method_parse.proofs.name_laws.spelled_names_are_names.Goals as goal

pub returns : goal.returns
returns c = λ token is kind. spelled_name token.kind token.text is kind
