-- The codes that the writers take are those of the meaning.
use Rattle.protocol.specs.Answers.{Code as Meant, InvalidRequest, InvalidTicket, InvalidService, BadPgt, UnauthorizedService, InternalError}
use Rattle.xml.specs.declared.Code.{Code}
use Rattle.xml.specs.declared.Code.TheVariants as code

abbrev pub code_of : Code → Meant
code_of code.InvalidRequest = InvalidRequest
code_of code.InvalidTicket = InvalidTicket
code_of code.InvalidService = InvalidService
code_of code.BadPgt = BadPgt
code_of code.UnauthorizedService = UnauthorizedService
code_of code.InternalError = InternalError
