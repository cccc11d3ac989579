use Rattle.zio_audit.proofs.TextBack.{read_back}
use Rattle.zio_audit.proofs.TextLaws.{text_decided, text_put_in}
use Rattle.zio_audit.proofs.TextWhole.{yes_headline}
use Rattle.zio_audit.proofs.laws.texts_show_their_journals.Goals as goal

pub returns : goal.returns
returns c = record { put_in = text_put_in; text = text_decided; read_back = read_back; headline = yes_headline }
