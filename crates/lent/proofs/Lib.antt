mod Ring
