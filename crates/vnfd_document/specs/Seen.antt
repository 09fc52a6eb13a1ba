-- What a name of the document with its value is seen as.
use Rattle.serde_json.specs.View.{view}
use Rattle.vnfd_document.specs.declared.entries.Entry.{Entry}
use Rattle.vnfd_document.specs.Json.{Named}

-- the name and the data
abbrev pub seen : Entry → Named
seen e = (e.name.now, view e.value.now)
