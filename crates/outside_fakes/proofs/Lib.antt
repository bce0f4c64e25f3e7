mod NamedFiles
mod CountedFiles
