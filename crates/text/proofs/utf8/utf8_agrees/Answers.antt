use Rattle.text.proofs.Encodings.{encoding_agrees, library_agrees, utf8_encode}
use Rattle.text.proofs.Grammar.{decides}
use Rattle.text.proofs.Texts.{utf8_append, length_encode, utf8_ascii}
use Rattle.text.proofs.utf8.utf8_agrees.Goals as goal

pub returns : goal.returns
returns c =
    record {
      agrees = record { test = decides; encoding = encoding_agrees; library = library_agrees };
      laws = record { append = utf8_append; one = utf8_encode; lengths = length_encode; ascii = utf8_ascii };
    }
