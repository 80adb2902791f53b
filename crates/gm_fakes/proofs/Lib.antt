mod StoredFiles
