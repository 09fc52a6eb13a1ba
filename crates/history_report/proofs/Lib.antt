mod ReportLemmas
mod TellLemmas
